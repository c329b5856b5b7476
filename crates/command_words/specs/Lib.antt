pub mod Bounds
pub mod Keys
pub mod Commands
pub mod Names
pub mod Notices
pub mod Asked
pub mod Positions
