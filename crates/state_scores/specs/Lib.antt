pub mod Scores
pub mod Batches
pub mod Packing
pub mod Texts
