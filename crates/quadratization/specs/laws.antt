-- Laws with their proofs. Nothing here has to be believed.
pub mod Between
