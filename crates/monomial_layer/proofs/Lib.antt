pub mod Common
pub mod Sets
pub mod Sizes
pub mod Adding
mod Weights
