pub mod Common
pub mod CodeOrder
pub mod LentParts
pub mod LiteralSets
pub mod CodedParts
