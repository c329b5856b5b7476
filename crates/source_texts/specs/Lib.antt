pub mod Sources
pub mod Prepared
