pub mod Levels
pub mod Defaults
pub mod Ranges
pub mod Gens
pub mod Indexes
pub mod Laws
