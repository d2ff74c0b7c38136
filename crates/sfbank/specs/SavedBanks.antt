-- What a live session saves, as the input of a run.
use Rattle.std.specs.Prelude.{◌≡◌, List, ℕ, Some, None}
use Rattle.bank_parts.specs.declared.parts.Parts.{Parts}
use Rattle.hydra_records.specs.Records.{AreBytes}
use Rattle.bank_format.specs.Canon.{canon}
use Rattle.bank_format.specs.ReadChecks.{fault_of}
use Rattle.inverse_edits.specs.Histories.{IsHistory, bank_now, undo_edits}
use Rattle.live_sessions.specs.Saved.{Saved, saved_of}
use Rattle.live_sessions.specs.Steps.{started_with}
use Rattle.live_sessions.specs.Turns.{Turn, AreTurns}
use Rattle.sfbank.specs.Outcome.{bank_in, outcome}
use Rattle.sfbank.specs.BankScripts.{WritesFile}

-- the saved script, run on the saved file, writes this file
abbrev pub LeadsTo : Saved → List ℕ → Type 0
LeadsTo saved file = WritesFile (outcome saved.out saved.undo) file

-- At any time in a session on the bank of a file, what it saves leads to the canonical file of that bank. (The type of
-- a session's state is private to `live_sessions`.)
abbrev pub SavedUndoRestores : Type 0
SavedUndoRestores =
    (file : List ℕ) (ts : List Turn) (last : _) (c : Parts) → AreBytes file → fault_of file ≡ None
    → AreTurns (started_with (bank_in file)) ts last → IsHistory last.session → bank_now last.session ≡ Some c
    → LeadsTo (saved_of c (undo_edits last.session)) (canon (bank_in file))
