pub mod Multilinear
pub mod Behind
pub mod laws
