pub mod Fits
pub mod Records
pub mod Encoding
