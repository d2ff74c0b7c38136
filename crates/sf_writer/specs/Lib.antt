pub mod Info
pub mod Lists
pub mod Sizes
