pub mod Common
pub mod Alike
pub mod Growth
pub mod Rewritten
