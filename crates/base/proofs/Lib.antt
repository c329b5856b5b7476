pub mod Products
pub mod Totals
pub mod DividedWeights
pub mod FlatParts
