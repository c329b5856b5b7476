pub mod Orders
pub mod Renumbered
pub mod Stated
pub mod Widths
