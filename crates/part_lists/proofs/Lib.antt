pub mod Common
pub mod LineRows
pub mod PartRows
pub mod Rising
