pub mod Modulators
pub mod Linear
