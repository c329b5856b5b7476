-- Laws with their proofs, which the layer's members cite. Nothing here has to be believed.
pub mod Common
pub mod Ties
pub mod Costs
pub mod Sets
pub mod Kept
