pub mod Common
pub mod Loops
pub mod Clauses
pub mod Widening
pub mod Headerless
pub mod ReadCosts
