pub mod Rows
pub mod Told
pub mod Lines
pub mod Summary
