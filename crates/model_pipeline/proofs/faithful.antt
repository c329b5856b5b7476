pub mod Common
pub mod LeastStates
pub mod LeastSteps
pub mod LongerSources
pub mod EnergySizes
pub mod Told
