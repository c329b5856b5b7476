-- Laws with their proofs, which the layer's members cite. Nothing here has to be believed.
pub mod Spun
