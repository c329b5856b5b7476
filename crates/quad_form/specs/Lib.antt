pub mod Quads
pub mod Flat
pub mod laws
pub mod Units
pub mod Stated
pub mod Short
pub mod Sums
