-- Runs whose edits a plan finds.
use Rattle.std.specs.Prelude.{◌≡◌, ◌⊎◌, ℕ, List, map, Option, None, Some, Result, Ok, Err, Bool, true, false, slice_get, ⊤}
use Rattle.bank_parts.specs.declared.parts.Parts.{Parts}
use Rattle.std.specs.List.{AllByRecursion}
use Rattle.hydra_records.specs.Records.{AreBytes}
use Rattle.bank_format.specs.Canon.{canon}
use Rattle.bank_format.specs.ReadChecks.{fault_of}
use Rattle.script_notes.specs.declared.fault.NoteFault.{NoteFault}
use Rattle.script_notes.specs.Notes.{Numbers, notes_of}
use Rattle.edit_forms.specs.declared.edit.Edit.{Edit}
use Rattle.bank_edits.specs.Runs.{AllAccepted}
use Rattle.edit_script.specs.Printing.{texts_of}
use Rattle.plan_edits.specs.declared.fault.PlanFault.{PlanFault}
use Rattle.plan_edits.specs.declared.fault.PlanFault.TheVariants.{Full, Defect, OutOfMemory}
use Rattle.plan_presets.specs.declared.numbers.CopiedMember.{CopiedMember}
use Rattle.plan_presets.specs.declared.numbers.PresetNumbers.{PresetNumbers}
use Rattle.plan_presets.specs.declared.numbers.TakenPreset.{TakenPreset}
use Rattle.plan_edits.specs.Keeping.{is_played, IsKeeping}
use Rattle.plan_copy.specs.Copying.{IsCopying, IsPlayed, copies}
use Rattle.plan_take.specs.Taking.{is_taken, on_preset}
use Rattle.program_reports.specs.declared.run_fault.RunFault.{RunFault}
use Rattle.program_reports.specs.declared.run_fault.RunFault.TheVariants as run
use Rattle.sfbank.specs.EditTexts.{edits_text}
use Rattle.sfbank.specs.Outcome.{Done, both_texts, bank_in, outcome, play_outcome}
use Rattle.sfbank.specs.Written.{Writers, Runs}
use Rattle.program_commands.specs.declared.plans.Zones.{Zones}
use Rattle.sfbank.specs.Purposes.{Promise, Purpose, keeping_played, presets_of, promise_of, tidying_with}

-- The plan found edits that keep its promise. Their script, run on the file, gives both texts.
pub record IsPlanned (promise : Promise) (file : List ℕ) (done : Done) : Type 0 where
  pub edits : List Edit
  pub promised : promise (bank_in file) edits
  pub is_accepted : AllAccepted (bank_in file) edits
  pub scripted : outcome file (texts_of edits) ≡ Ok done

-- This is the script of edits that keep the promise, with comments or without.
pub record IsScript (comments : Bool) (promise : Promise) (file text : List ℕ) : Type 0 where
  pub edits : List Edit
  pub promised : promise (bank_in file) edits
  pub is_accepted : AllAccepted (bank_in file) edits
  pub is_text : text ≡ edits_text comments (bank_in file) edits

-- the edits of a plan for a bank, and both texts
pub record HasTexts (promise : Promise) (b : Parts) (done : Done) : Type 0 where
  pub edits : List Edit
  pub promised : promise b edits
  pub is_accepted : AllAccepted b edits
  pub texts : done ≡ both_texts b edits

-- the fault of a run whose plan has no edits
abbrev pub of_plan : PlanFault → RunFault
of_plan (Full limit) = run.Full limit
of_plan Defect = run.PlanFailed
of_plan OutOfMemory = run.Memory

-- a fault of a plan that was to find edits
abbrev pub IsPlanFault : RunFault → Type 0
IsPlanFault (run.Full limit) = ⊤
IsPlanFault run.PlanFailed = ⊤
IsPlanFault fault = ⊥

-- ---- the run of a plan, where edits are wanted for a purpose, or there is a fault

-- both texts for a purpose
pub record IsFound (wanted : Result Purpose RunFault) (file : List ℕ) (done : Done) : Type 0 where
  pub purpose : Purpose
  pub is_wanted : wanted ≡ Ok purpose
  pub planned : IsPlanned (promise_of purpose) file done

-- edits were wanted, and a plan has this fault
pub record IsNotFound (wanted : Result Purpose RunFault) (fault : RunFault) : Type 0 where
  pub purpose : Purpose
  pub is_wanted : wanted ≡ Ok purpose
  pub failed : IsPlanFault fault

-- The outcome: the fault, else both texts, or `PlanFailed` or `Full`.
abbrev pub MayEnd : Result Purpose RunFault → List ℕ → Result Done RunFault → Type 0
MayEnd wanted file (Ok done) = IsFound wanted file done
MayEnd wanted file (Err fault) = (wanted ≡ Err fault) ⊎ IsNotFound wanted fault

-- the run of a plan has such an outcome
pub record RunsPlan {U : Type 0} (wanted : Result Purpose RunFault) (w : Writers) (file : List ℕ) (r : Result U RunFault)
    : Type 0 where
  pub found : Result Done RunFault
  pub may_end : MayEnd wanted file found
  pub runs : Runs w found r

-- ---- what follows

-- The undo text, run on the written file, writes the canonical file of the first bank, and its own undo text is the
-- script of the plan's edits.
abbrev pub PlanIsUndone : Promise → List ℕ → Type 0
PlanIsUndone promise file =
    (done : Done) (p : IsPlanned promise file done)
    → outcome done.out done.undo ≡ Ok (record { out = canon (bank_in file); undo = texts_of p.edits })

-- each note list has the same outcome on the tidied file and on the first
abbrev pub TidiedRendersSame : Bool → List ℕ → Type 0
TidiedRendersSame merge file =
    (done : Done) (notes : List ℕ) → IsPlanned (promise_of (tidying_with merge)) file done
    → play_outcome done.out notes ≡ play_outcome file notes

-- the notes, if they have no fault, are of kept presets
abbrev pub OnlyPlays : List PresetNumbers → Result (List Numbers) NoteFault → Type 0
OnlyPlays kept (Ok ns) = AllByRecursion (λ n. is_played kept n ≡ true) ns
OnlyPlays kept (Err fault) = ⊤

-- each note list of kept presets has the same outcome on the written file and on the first
abbrev pub KeptRendersSame : List PresetNumbers → List ℕ → Type 0
KeptRendersSame kept file =
    (done : Done) (notes : List ℕ) → IsPlanned (IsKeeping kept) file done → OnlyPlays kept (notes_of notes)
    → play_outcome done.out notes ≡ play_outcome file notes

-- where the presets of a note list are kept, it has the same outcome on the written file and on the first
abbrev pub PlayedRendersSame : Type 0
PlayedRendersSame =
    (file notes : List ℕ) (ns : List Numbers) (done : Done) → AreBytes file → notes_of notes ≡ Ok ns
    → IsPlanned (IsKeeping (presets_of ns)) file done → play_outcome done.out notes ≡ play_outcome file notes

-- where edits are found that keep what notes play, the notes have the same outcome on the written file and on the first
abbrev pub NotesRenderSame : Zones → List ℕ → List ℕ → Type 0
NotesRenderSame zones file notes =
    (done : Done) → IsFound (keeping_played zones file notes) file done → play_outcome done.out notes ≡ play_outcome file notes

-- the undo text of such a run restores the first bank
abbrev pub NotesAreUndone : Zones → List ℕ → List ℕ → Type 0
NotesAreUndone zones file notes =
    (purpose : Purpose) → keeping_played zones file notes ≡ Ok purpose → PlanIsUndone (promise_of purpose) file

-- where a plan takes presets, notes on one have the outcome on the written file that they have, on the original, on the
-- other file
abbrev pub TakenRenderSame : Promise → List ℕ → List TakenPreset → List ℕ → Type 0
TakenRenderSame promise other presets file =
    (done : Done) (i : ℕ) (p : TakenPreset) (ns : List Numbers) (notes played : List ℕ)
    → IsPlanned promise file done → fault_of other ≡ None → slice_get presets i ≡ Some p
    → notes_of notes ≡ Ok (map (on_preset p.to) ns) → notes_of played ≡ Ok (map (on_preset p.from) ns)
    → play_outcome done.out notes ≡ play_outcome other played

-- where a preset is copied that its numbers play, notes on the copy have the outcome on the written file that they have,
-- on the original, on the first file
abbrev pub CopyRendersSame : CopiedMember → Option (List ℕ) → List ℕ → Type 0
CopyRendersSame member name file =
    (done : Done) (i : ℕ) (p : TakenPreset) (ns : List Numbers) (notes played : List ℕ)
    → IsPlanned (IsCopying member name) file done → slice_get (copies (bank_in file) member) i ≡ Some p
    → IsPlayed (bank_in file) member p
    → notes_of notes ≡ Ok (map (on_preset p.to) ns) → notes_of played ≡ Ok (map (on_preset p.from) ns)
    → play_outcome done.out notes ≡ play_outcome file played

-- notes on presets that are not taken have the same outcome on the written file and on the first
abbrev pub OthersRenderSame : Promise → List TakenPreset → List ℕ → Type 0
OthersRenderSame promise presets file =
    (done : Done) (ns : List Numbers) (notes : List ℕ) → IsPlanned promise file done
    → notes_of notes ≡ Ok ns → AllByRecursion (λ n. is_taken presets n ≡ false) ns
    → play_outcome done.out notes ≡ play_outcome file notes
