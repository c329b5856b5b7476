pub mod Common
pub mod Energies
pub mod NodeNumbers
pub mod EntryCounts
pub mod Packed
pub mod EntryRows
pub mod PairNumbers
pub mod RowEnergies
