-- Laws with their proofs, which the layer's members cite. Nothing here has to be believed.
pub mod Common
pub mod Positive
pub mod TermCosts
pub mod Kept
