pub mod Literals
pub mod Codes
pub mod HeldLists
