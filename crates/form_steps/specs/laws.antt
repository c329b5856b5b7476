-- Laws with their proofs, which the members of traits cite. Nothing here has to be believed.
pub mod Plain
pub mod Composed
pub mod AtLeast
