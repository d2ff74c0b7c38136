pub use Rattle.bank_parts.specs.Valid
pub use Rattle.bank_parts.specs.Fits
pub use Rattle.bank_parts.specs.Sound
pub use Rattle.edit_refusals.specs.Edits
pub use Rattle.bank_edits.specs.EditChanges
pub mod Neutral
pub mod SameSound
pub mod Events
