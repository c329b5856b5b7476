pub mod Conflicts
pub mod Steps
