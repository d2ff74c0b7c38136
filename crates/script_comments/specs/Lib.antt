pub mod Items
pub mod Putting
pub mod Names
pub mod Zones
pub mod Comments
pub mod Lines
pub mod Along
