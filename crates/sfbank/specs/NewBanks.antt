-- The file of an empty bank.
use Rattle.std.specs.Prelude.{◌≡◌, ℕ, List, None, Result, Ok}
use Rattle.bank_format.specs.Canon.{canon}
use Rattle.bank_format.specs.ReadChecks.{fault_of}
use Rattle.script_of_bank.specs.BankEdits.{empty}
use Rattle.program_reports.specs.declared.run_fault.RunFault.{RunFault}
use Rattle.sfbank.specs.Outcome.{bank_in, canon_outcome}

-- the canonical file of the empty bank of a minor version
abbrev pub new_file : ℕ → List ℕ
new_file minor = canon (empty minor)

abbrev pub new_outcome : ℕ → Result (List ℕ) RunFault
new_outcome minor = Ok (new_file minor)

-- The file is its own canonical file, and reads as the empty bank of this version.
pub record IsNew (minor : ℕ) : Type 0 where
  pub own : canon_outcome (new_file minor) ≡ Ok (new_file minor)
  pub read : fault_of (new_file minor) ≡ None
  pub bank : bank_in (new_file minor) ≡ empty minor
