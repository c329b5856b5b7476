pub mod Common
pub mod Stepping
pub mod Refusals
pub mod FilesRead
pub mod Holding
pub mod Sourced
pub mod Cutting
pub mod Ended
pub mod Taking
pub mod Certified
pub mod BoundedLimits
pub mod Sampled
pub mod StateBits
mod Lemmas
