-- Laws with their proofs, which the layer's members cite. Nothing here has to be believed.
pub mod SpinSums
pub mod Whole
pub mod NodeEnergies
pub mod Aligned
pub mod Kept
pub mod OnceChains
