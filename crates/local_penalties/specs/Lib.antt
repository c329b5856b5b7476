pub mod Hurting
pub mod Stepping
pub mod Prices
pub mod Rounds
pub mod Tallies
pub mod Kept
