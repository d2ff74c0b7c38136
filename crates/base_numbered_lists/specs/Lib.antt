pub mod Moved
pub mod Renumbered
pub mod Laws
