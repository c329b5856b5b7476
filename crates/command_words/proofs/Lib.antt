pub mod Common
pub mod Texts
pub mod KeyTable
pub mod Graphs
pub mod AskedWords
pub mod SaidWords
pub mod Stops
pub mod Positions
