pub use Rattle.script_of_bank.specs.LeadsTo
