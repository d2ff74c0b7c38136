pub mod Ranges
pub mod Splits
pub mod Agreement
pub mod Undone
