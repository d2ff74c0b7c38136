pub use Rattle.bank_parts.specs.Sound
pub use Rattle.edit_refusals.specs.Edits
pub use Rattle.bank_edits.specs.Undone
pub use Rattle.bank_edits.specs.Runs
pub mod Histories
pub mod UndoRedo
