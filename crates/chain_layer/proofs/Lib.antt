pub mod Common
pub mod Sizes
pub mod Ordered
pub mod Added
pub mod Unchained
pub mod Written
pub mod OneList
