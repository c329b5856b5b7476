pub mod Isings
pub mod Spins
pub mod laws
pub mod Outputs
pub mod Reduction
pub mod Stated
