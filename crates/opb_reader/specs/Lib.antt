pub mod Opb
pub mod Cost
pub mod Views
