pub mod Chains
pub mod Valid
pub mod Faults
pub mod Maps
pub mod Cliques
