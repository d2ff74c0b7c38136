pub mod Listing
pub mod Uses
pub mod Details
