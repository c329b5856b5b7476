-- What a written model promises of its source, and what its least states tell.
pub mod AtLeast
pub mod Bounds
pub mod Faithful
pub mod Told
pub mod Stated
