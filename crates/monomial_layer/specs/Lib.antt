pub mod Monomials
pub mod laws
pub mod Stated
