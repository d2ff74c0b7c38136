-- Why a run fails: the faults of its parts.
use Rattle.std.proofs.Common.{◌≡◌, ℕ, List, Option, None, Ok, Err, refl, sym, ap, ◌∙◌}
use Rattle.sf_base.specs.declared.memory.Failure.{Failure}
use Rattle.sf_base.specs.declared.memory.Failure.TheVariants as failures
use Rattle.bank_parts.specs.declared.parts.Parts.{Parts}
use Rattle.bank_format.specs.declared.fault.Counts.{Counts}
use Rattle.bank_format.specs.declared.fault.ReadFault.{ReadFault}
use Rattle.bank_format.specs.Canon.{canon}
use Rattle.bank_format.specs.Reading.{Content}
use Rattle.bank_format.specs.ReadChecks.{ReadsAs}
use Rattle.edit_forms.specs.declared.edit.Edit.{Edit}
use Rattle.script_tokens.specs.declared.fault.ScriptFault.{ScriptFault}
use Rattle.script_tokens.specs.Pool.{pool_bytes}
use Rattle.script_tokens.specs.Pool as scripts
use Rattle.edit_script.specs.declared.parsing.Line.{Line}
use Rattle.edit_script.specs.Script.{script_of}
use Rattle.edit_script.specs.Printing.{texts_of}
use Rattle.program_reports.specs.declared.run_fault.RunFault.{RunFault}
use Rattle.program_reports.specs.declared.run_fault.RunFault.TheVariants as run
use Rattle.sfbank.specs.Outcome.{Done, edits_of, RefusedLine, first_refused, both_texts, unless_refused}
use Rattle.sfbank.specs.Outcome.{first_not_neutral, if_neutral, after_script, after_neutral_script, after_reading}
use Rattle.sfbank.specs.Outcome.{bank_in}
use Rattle.sfbank.specs.Written.{FailsBefore}
use Rattle.sfbank.specs.EditRuns.{AllApplied, AllOf, StopsAtLine, first_other, after_lines, outcome_of}
use Rattle.program_commands.specs.declared.words.Forms.{Forms}
use Rattle.program_commands.specs.declared.words.Forms.TheVariants.{Every, Neutral}
use Rattle.program_reports.specs.RunFaults.{in_run}

-- ---- a file that reads as a bank

-- the outcome for its bytes is the outcome for the bank
pub at_bank : (forms : Forms) (file script : List ℕ) (b : Parts) (counts : Counts) → ReadsAs file b counts
    → outcome_of forms file script ≡ after_lines forms b (script_of script)
at_bank forms file script b counts r =
    ap (λ (o : Option ReadFault). after_reading o (after_lines forms (bank_in file) (script_of script))) r.0
    ∙ ap (λ (c : Content). after_lines forms c.bank (script_of script)) r.1

-- ---- the script's fault

pub pool_fails : (script : List ℕ) (failure : Failure ScriptFault) → scripts.Fails failure (pool_bytes script)
    → scripts.Fails failure (script_of script)
unfolding script_of
pool_fails script (failures.Fault fault) h = rw h refl
pool_fails script failures.OutOfMemory h = tt

pub at_script : (forms : Forms) (b : Parts) (script : List ℕ) (failure : Failure ScriptFault)
    → scripts.Fails failure (script_of script)
    → FailsBefore (in_run run.Script failure) (after_lines forms b (script_of script))
at_script Every b script (failures.Fault fault) h = ap (after_script b) h
at_script Neutral b script (failures.Fault fault) h = ap (after_neutral_script b) h
at_script forms b script failures.OutOfMemory h = tt

-- ---- a script that parses as lines

of_these : (forms : Forms) (b : Parts) (lines : List Line) → first_other forms lines ≡ None
    → after_lines forms b (Ok lines) ≡ after_script b (Ok lines)
of_these Every b lines h = refl
of_these Neutral b lines h = ap (λ (o : Option ℕ). if_neutral o (after_script b (Ok lines))) h

-- a script that parses as lines of these forms
pub at_these : (forms : Forms) (b : Parts) (script : List ℕ) (lines seen : List Line) → script_of script ≡ Ok lines
    → seen ≡ lines → first_other forms seen ≡ None
    → after_lines forms b (script_of script) ≡ after_script b (script_of script)
at_these forms b script lines seen e s h =
    ap (after_lines forms b) e ∙ of_these forms b lines (ap (first_other forms) (sym s) ∙ h)
    ∙ sym (ap (after_script b) e)

-- a script that parses, but has a line of another form
pub at_other : (U : Type 0) (forms : Forms) (b : Parts) (script : List ℕ) (lines seen : List Line) (fault : RunFault)
    → script_of script ≡ Ok lines → seen ≡ lines
    → AllOf {U = U} (first_other forms seen) (Err fault) → FailsBefore fault (after_lines forms b (script_of script))
at_other U Neutral b script lines seen (run.NotNeutral number) e s h =
    ap (after_neutral_script b) e
    ∙ ap (λ (o : Option ℕ). if_neutral o (after_script b (Ok lines))) (ap first_not_neutral (sym s) ∙ h)
at_other U Every b script lines seen (run.NotNeutral number) e s h = absurd cc
at_other U forms b script lines seen (run.Refused number why) e s h = absurd h
at_other U forms b script lines seen run.Memory e s h = tt
at_other U forms b script lines seen (run.Read fault) e s h = absurd h
at_other U forms b script lines seen (run.ReadFirst fault) e s h = absurd h
at_other U forms b script lines seen (run.ReadSecond fault) e s h = absurd h
at_other U forms b script lines seen (run.Script fault) e s h = absurd h
at_other U forms b script lines seen (run.Notes fault) e s h = absurd h
at_other U forms b script lines seen run.OtherVersion e s h = absurd h
at_other U forms b script lines seen run.PlanFailed e s h = absurd h
at_other U forms b script lines seen (run.ReadFrom f) e s h = absurd h
at_other U forms b script lines seen (run.Presets f) e s h = absurd h
at_other U forms b script lines seen (run.Full f) e s h = absurd h
at_other U forms b script lines seen (run.Recording fault) e s h = absurd h
at_other U forms b script lines seen (run.Table fault) e s h = absurd h
at_other U forms b script lines seen (run.InRecording i fault) e s h = absurd h
at_other U forms b script lines seen (run.NoMember cause) e s h = absurd h
at_other U forms b script lines seen (run.Write which n) e s h = h

-- a line is refused, or an allocation fails
pub stops_at : (b : Parts) (lines : List Line) (fault : RunFault) → StopsAtLine fault (first_refused b lines)
    → FailsBefore fault (after_script b (Ok lines))
stops_at b lines (run.Refused number why) h =
    ap (λ (o : Option RefusedLine). unless_refused o (both_texts b (edits_of lines))) h
stops_at b lines run.Memory h = tt
stops_at b lines (run.Read fault) h = absurd h
stops_at b lines (run.ReadFirst fault) h = absurd h
stops_at b lines (run.ReadSecond fault) h = absurd h
stops_at b lines (run.Script fault) h = absurd h
stops_at b lines (run.NotNeutral number) h = absurd h
stops_at b lines run.OtherVersion h = absurd h
stops_at b lines run.PlanFailed h = absurd h
stops_at b lines (run.ReadFrom f) h = absurd h
stops_at b lines (run.Presets f) h = absurd h
stops_at b lines (run.Full f) h = absurd h
stops_at b lines (run.Recording fault) h = absurd h
stops_at b lines (run.Table fault) h = absurd h
stops_at b lines (run.InRecording i fault) h = absurd h
stops_at b lines (run.NoMember cause) h = absurd h
stops_at b lines (run.Notes fault) h = absurd h
stops_at b lines (run.Write which n) h = h

pub at_line : (b : Parts) (script : List ℕ) (lines : List Line) (fault : RunFault) → script_of script ≡ Ok lines
    → StopsAtLine fault (first_refused b lines) → FailsBefore fault (after_script b (script_of script))
at_line b script lines fault e h = rw e (stops_at b lines fault h)

abbrev texts : Parts → List Edit → Done
texts b undo = record { out = canon b; undo = texts_of undo }

-- lines that were applied
pub applied_done : (b new : Parts) (lines : List Line) (undo : List Edit) → AllApplied b new lines undo
    → after_script b (Ok lines) ≡ Ok (texts new undo)
applied_done b new lines undo a =
    ap (λ (o : Option RefusedLine). unless_refused o (both_texts b (edits_of lines))) a.accepted
    ∙ sym (λ i. Ok (texts (a.changed i) (a.undo_is i)))

pub at_done : (b new : Parts) (script : List ℕ) (lines : List Line) (undo : List Edit) → script_of script ≡ Ok lines
    → AllApplied b new lines undo → after_script b (script_of script) ≡ Ok (texts new undo)
at_done b new script lines undo e a = ap (after_script b) e ∙ applied_done b new lines undo a
