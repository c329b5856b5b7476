-- Laws with their proofs, which the guard's members cite. Nothing here has to be believed.
pub mod Common
pub mod Violations
pub mod SlackValues
pub mod SquareCosts
pub mod Nearest
pub mod Agreement
pub mod Broken
pub mod Relaxing
