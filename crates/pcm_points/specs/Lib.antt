pub mod Samples
pub mod Points
pub mod Dither
pub mod Blocks
pub mod Laws
