pub mod Poly
pub mod Numbering
pub mod Cost
pub mod Views
