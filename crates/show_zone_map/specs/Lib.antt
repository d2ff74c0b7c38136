pub mod Rectangles
pub mod Marks
pub mod Samples
pub mod Picture
pub mod Selected
