pub mod Entries
pub mod Problems
pub mod Cost
pub mod Again
pub mod Energies
