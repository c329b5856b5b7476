pub mod Statuses
pub mod Plans
pub mod Steps
pub mod Causes
pub mod Takes
pub mod Cut
pub mod Drawn
