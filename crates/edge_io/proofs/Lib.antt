pub mod Common
pub mod Named
pub mod Pieces
pub mod Rest
