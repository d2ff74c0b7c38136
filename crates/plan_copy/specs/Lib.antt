pub use Rattle.bank_edits.specs.Runs
pub use Rattle.plan_take.specs.Taking
pub mod Copying
pub mod CopySteps
