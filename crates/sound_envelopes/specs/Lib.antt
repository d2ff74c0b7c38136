pub mod Gain
pub mod Envelope
pub mod Constant
