pub mod Relations
pub mod Least
pub mod Links
pub mod laws
pub mod Stated
pub use Rattle.base.specs.Costs
pub use Rattle.base.specs.Figures
