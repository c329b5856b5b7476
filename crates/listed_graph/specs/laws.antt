-- Laws with their proofs, which the members of the graphs cite. Nothing here has to be believed.
pub mod Completes
pub mod ListedJoins
