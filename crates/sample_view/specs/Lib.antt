pub mod Words
pub mod Pieces
pub mod Runs
pub mod Cuts
pub mod Slices
