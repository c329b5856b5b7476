pub mod Common
pub mod FieldEnergies
pub mod FieldSums
pub mod Images
pub mod ReducedForms
pub mod ChainedNodes
pub mod WrittenModels
pub mod CouplerSteps
