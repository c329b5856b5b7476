pub mod Counts
pub mod Held
pub mod laws
pub mod InMemory
pub mod Sinks
