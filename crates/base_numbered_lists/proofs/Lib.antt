pub mod Lists
pub mod Numbers
mod Rotated
pub mod Following
pub mod Changing
