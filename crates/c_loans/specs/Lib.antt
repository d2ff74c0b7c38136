pub mod Owned
pub mod Starts
