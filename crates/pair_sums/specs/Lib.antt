pub mod Pairs
pub mod Codes
pub mod PairLists
