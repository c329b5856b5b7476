pub mod Sample
pub mod Read
