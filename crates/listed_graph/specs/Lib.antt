pub mod Complete
pub mod Parts
pub mod Rows
pub mod laws
