pub mod Fits
pub mod Names
pub mod Numbers
pub mod Appending
pub mod Zones
pub mod Members
pub mod Kits
