pub mod Others
pub mod Fabrics
