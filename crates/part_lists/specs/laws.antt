-- Laws with their proofs, which graphs of parts cite. Nothing here has to be believed.
pub mod Couplers
