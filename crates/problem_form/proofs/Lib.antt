pub mod Common
pub mod MarkedLists
pub mod KeptClauses
pub mod KeptProducts
pub mod CountedNumbers
pub mod BinaryDigits
pub mod CostSizes
pub mod NormalForms
pub mod AddedParts
pub mod WeighedParts
pub mod LeftSums
pub mod HeldConstraints
pub mod KeptPairs
mod Lemmas
