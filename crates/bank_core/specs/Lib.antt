pub use Rattle.bank_parts.specs.Valid
pub use Rattle.bank_parts.specs.Fits
pub use Rattle.bank_parts.specs.Sound
pub mod Faults
pub mod Records
pub mod Heads
pub mod Flat
