-- Laws with their proofs, which the fields of structs cite. Nothing here has to be believed.
pub mod Joined
