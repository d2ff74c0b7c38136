pub use Rattle.bank_edits.specs.Runs
pub use Rattle.zone_select.specs.Alike
pub mod Uses
pub mod NeutralRuns
pub mod Tidying
pub mod Keeping
pub mod ZoneSets
pub mod Playing
