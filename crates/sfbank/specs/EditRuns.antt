-- The parts of a run, before anything is written.
use Rattle.std.specs.Prelude.{◌≡◌, ℕ, List, Option, Some, None, Result, Ok, Err}
use Rattle.bank_parts.specs.declared.parts.Parts.{Parts}
use Rattle.edit_forms.specs.declared.edit.Edit.{Edit}
use Rattle.bank_edits.specs.Runs.{after_all, undo_list}
use Rattle.edit_script.specs.declared.parsing.Line.{Line}
use Rattle.program_reports.specs.declared.run_fault.RunFault.{RunFault}
use Rattle.program_reports.specs.declared.run_fault.RunFault.TheVariants as run
use Rattle.bank_format.specs.ReadChecks.{fault_of}
use Rattle.script_tokens.specs.declared.fault.ScriptFault.{ScriptFault}
use Rattle.edit_script.specs.Script.{script_of}
use Rattle.program_commands.specs.declared.words.Forms.{Forms}
use Rattle.program_commands.specs.declared.words.Forms.TheVariants.{Every, Neutral}
use Rattle.sfbank.specs.Outcome.{Done, edits_of, RefusedLine, first_refused, first_not_neutral, after_script}
use Rattle.sfbank.specs.Outcome.{after_neutral_script, after_reading, bank_in}

-- the first refused line, or out of memory
abbrev pub StopsAtLine : RunFault → Option RefusedLine → Type 0
StopsAtLine (run.Refused number why) first = first ≡ Some (record { number = number; why = why })
StopsAtLine run.Memory first = Unit {0}
StopsAtLine fault first = ⊥

-- All lines were applied to the first bank: the bank that they made, and their inverses, the last edit's first.
pub record AllApplied (first now : Parts) (lines : List Line) (undo : List Edit) : Type 0 where
  pub accepted : first_refused first lines ≡ None
  pub changed : now ≡ after_all first (edits_of lines)
  pub undo_is : undo ≡ undo_list first (edits_of lines)

-- the first line whose edit is not of these forms
abbrev pub first_other : Forms → List Line → Option ℕ
first_other Every lines = None
first_other Neutral lines = first_not_neutral lines

-- the outcome of a script whose edits must be of these forms
abbrev pub after_lines : Forms → Parts → Result (List Line) ScriptFault → Result Done RunFault
after_lines Every b lines = after_script b lines
after_lines Neutral b lines = after_neutral_script b lines

-- the outcome of a file and such a script
abbrev pub outcome_of : Forms → List ℕ → List ℕ → Result Done RunFault
outcome_of forms file script = after_reading (fault_of file) (after_lines forms (bank_in file) (script_of script))

-- all lines are of the accepted forms, or the first that is not
abbrev pub AllOf : {U : Type 0} → Option ℕ → Result U RunFault → Type 0
AllOf first (Ok u) = first ≡ None
AllOf first (Err (run.NotNeutral number)) = first ≡ Some number
AllOf first (Err fault) = ⊥
