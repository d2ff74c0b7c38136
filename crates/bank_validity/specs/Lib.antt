pub use Rattle.sf_base.specs.Names
pub use Rattle.bank_parts.specs.Valid
pub use Rattle.bank_parts.specs.Fits
pub mod Limits
