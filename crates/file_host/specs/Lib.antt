pub mod InputFaults
pub mod OutputReasons
pub mod World
pub mod Saving
pub mod Journal
pub mod Checks
