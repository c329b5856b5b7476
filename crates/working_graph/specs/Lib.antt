pub mod Working
pub mod Index
pub mod laws
pub mod Places
pub mod DeadLists
pub mod CliquePlaces
