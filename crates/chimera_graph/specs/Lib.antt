pub mod Shape
pub mod Places
pub mod laws
pub mod Graph
pub mod Lines
