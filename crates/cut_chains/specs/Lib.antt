pub mod Sides
pub mod CutImage
pub mod CutLinks
pub mod Orders
pub mod Steps
pub mod Stated
pub mod laws
