pub mod Sums
pub mod Stated
pub mod Figures
pub mod Costs
pub mod FlatLists
