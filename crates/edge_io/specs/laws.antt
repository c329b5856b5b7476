-- Laws with their proofs, which the members of files cite. Nothing here has to be believed.
pub mod Begun
