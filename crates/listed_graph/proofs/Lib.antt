pub mod Common
pub mod Counts
pub mod Joined
