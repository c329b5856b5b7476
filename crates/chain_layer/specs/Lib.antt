pub mod Image
pub mod Steps
pub mod Stated
pub mod laws
