pub mod Slack
pub mod Squares
pub mod Stated
pub mod Penalty
pub mod Weights
pub mod Gathered
pub mod Sets
pub mod laws
