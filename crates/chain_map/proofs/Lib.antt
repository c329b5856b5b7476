pub mod Common
pub mod Occurrences
pub mod Rows
pub mod LineNumbers
pub mod CliqueChains
pub mod Paths
