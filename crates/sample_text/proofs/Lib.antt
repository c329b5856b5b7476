pub mod Common
pub mod Clauses
pub mod Sizes
pub mod Readings
pub mod Bounds
pub mod EachRead
