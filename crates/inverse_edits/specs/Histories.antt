-- The model of a session: a list of banks, the edit between each two consecutive banks, and the current index.
use Rattle.std.specs.Prelude.{◌≡◌, ℕ, ◌<◌, ◌+◌, Option, Some, List, [], ◌∷◌, ◌++◌, length, map, take, zip}
use Rattle.std.specs.Prelude.{slice_get, option_and_then}
use Rattle.bank_parts.specs.declared.parts.Parts.{Parts}
use Rattle.edit_forms.specs.declared.edit.Edit.{Edit}
use Rattle.edit_refusals.specs.declared.refusal.Refusal.{Refusal}
use Rattle.edit_refusals.specs.declared.refusal.Refusal.TheVariants.{OutOfMemory, NothingToUndo, NothingToRedo}
use Rattle.edit_refusals.specs.Edits.{raw, refusal}
use Rattle.bank_edits.specs.EditChanges.{inverse}
use Rattle.bank_edits.specs.Undone.{IsAccepted}
use Rattle.bank_edits.specs.Runs.{undo_list}

pub record History : Type 0 where
  pub banks : List Parts
  pub edits : List Edit
  pub index : ℕ

-- the current bank
abbrev pub bank_now : History → Option Parts
bank_now h = slice_get h.banks h.index

-- starting from a bank, each edit is accepted and gives the next bank
abbrev pub Follow : Parts → List Parts → List Edit → Type 0
Follow b [] [] = Unit {0}
Follow b (c ∷ banks) (e ∷ edits) = IsAccepted b e × (c ≡ raw b e) × Follow c banks edits
Follow b [] (e ∷ edits) = ⊥
Follow b (c ∷ banks) [] = ⊥

-- the same for a non-empty list of banks
abbrev pub AreLinked : List Parts → List Edit → Type 0
AreLinked [] edits = ⊥
AreLinked (b ∷ banks) edits = Follow b banks edits

pub record IsHistory (h : History) : Type 0 where
  pub linked : AreLinked h.banks h.edits
  pub within : h.index < length h.banks

-- ---- the calls

-- one bank, and no edits
abbrev pub new_history : Parts → History
new_history b = record { banks = b ∷ []; edits = []; index = 0 }

-- both lists are truncated after the current bank, and the edit and the bank that it gives are appended
abbrev pub edited : History → Edit → Parts → History
edited h e next =
    record {
      banks =
          take (h.index + 1) h.banks ++ next ∷ [];
      edits = take h.index h.edits ++ e ∷ [];
      index = h.index + 1;
    }

-- the current bank accepts the edit
pub record IsEdited (old new : History) (e : Edit) : Type 0 where
  pub bank : Parts
  pub here : bank_now old ≡ Some bank
  pub accepted : IsAccepted bank e
  pub changed : new ≡ edited old e (raw bank e)

-- why the current bank refuses the edit; `OutOfMemory` is possible in any case
abbrev pub IsRefusalNow : History → Edit → Refusal → Type 0
IsRefusalNow h e OutOfMemory = Unit {0}
IsRefusalNow h e why = option_and_then (λ (b : Parts). refusal b e) (bank_now h) ≡ Some why

-- the index increases by one in the same lists (redo); for undo the arguments are exchanged
pub record MovesForward (old new : History) : Type 0 where
  pub next : old.index + 1 < length old.banks
  pub moved : new ≡ record old { index = old.index + 1 }

-- `NothingToUndo` at the first bank, otherwise `OutOfMemory`
abbrev pub IsUndoFailure : History → Refusal → Type 0
IsUndoFailure h NothingToUndo = h.index ≡ 0
IsUndoFailure h OutOfMemory = 0 < h.index
IsUndoFailure h why = ⊥

-- `NothingToRedo` at the last bank, otherwise `OutOfMemory`
abbrev pub IsRedoFailure : History → Refusal → Type 0
IsRedoFailure h NothingToRedo = h.index + 1 ≡ length h.banks
IsRedoFailure h OutOfMemory = h.index + 1 < length h.banks
IsRedoFailure h why = ⊥

-- the undo list: the inverses of the edits before the current bank, the oldest edit's first
abbrev pub undo_edits : History → List Edit
undo_edits h = map (λ (step : Parts × Edit). inverse step.0 step.1) (take h.index (zip h.banks h.edits))

-- the last of some edits
abbrev pub IsLast : List Edit → Edit → Type 0
IsLast es e = (before : List Edit) × (es ≡ before ++ e ∷ [])

-- ---- the history of a bank with its undo edits, the last edit's inverse first, and its redo edits

-- the banks before this one, the oldest first
abbrev pub banks_before : Parts → List Edit → List Parts
banks_before b [] = []
banks_before b (e ∷ edits) = banks_before (raw b e) edits ++ raw b e ∷ []

-- the banks after this one
abbrev pub banks_after : Parts → List Edit → List Parts
banks_after b [] = []
banks_after b (e ∷ edits) = raw b e ∷ banks_after (raw b e) edits

abbrev pub history_of : Parts → List Edit → List Edit → History
history_of b undos next =
    record {
      banks =
          banks_before b undos ++ b ∷ banks_after b next;
      edits = undo_list b undos ++ next;
      index = length undos;
    }
