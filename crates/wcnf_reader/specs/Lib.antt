pub mod Wcnf
pub mod Cost
pub mod Views
