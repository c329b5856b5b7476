pub mod Wbo
pub mod Rewriting
pub mod Reading
pub mod Gathering
pub mod Extensions
pub mod SoftLists
