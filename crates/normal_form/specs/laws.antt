-- Laws with their proofs, which the guard's members cite. Nothing here has to be believed.
pub mod Relaxing
