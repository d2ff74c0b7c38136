pub mod Extremes
pub mod Columns
pub mod Pairs
pub mod Facts
pub mod Waves
pub mod Seams
pub mod Rows
pub mod Picture
