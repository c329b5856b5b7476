pub mod Common
pub mod Many
pub mod Literals
pub mod Shrinking
pub mod TermSums
pub mod Totals
pub mod Constraints
pub mod Additions
pub mod ReadCosts
pub mod Variables
mod Lemmas
