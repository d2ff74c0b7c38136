pub mod Devices
pub mod Inputs
pub mod Heads
pub mod Frames
pub mod Crashes
pub mod Names
pub mod Pairs
