pub mod Common
pub mod PairOrder
pub mod SummedPairs
pub mod UniqueSums
pub mod PairSums
