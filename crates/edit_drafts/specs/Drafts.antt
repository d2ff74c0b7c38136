-- Drafts of a bank.
use Rattle.std.specs.Prelude.{◌≡◌, List, [], ◌∷◌, ◌++◌, map, Result, Ok, Err}
use Rattle.bank_parts.specs.declared.parts.Parts.{Parts}
use Rattle.bank_changes.specs.declared.sample_moves.SampleMove.{SampleMove}
use Rattle.bank_changes.specs.SampleMoves.{samples_moved}
use Rattle.edit_forms.specs.declared.step.Step.{Step}
use Rattle.edit_forms.specs.declared.edit.Edit.{Edit}
use Rattle.edit_forms.specs.declared.edit.Edit.TheVariants.{One}
use Rattle.edit_refusals.specs.Edits.{raw}
use Rattle.bank_edits.specs.Undone.{IsAccepted}
use Rattle.bank_edits.specs.Runs.{AllAccepted}
use Rattle.bank_edits.specs.MoveEdits.{move_edit}

-- a first bank, edits, and the bank to which they lead
pub record Drafted : Type 0 where
  pub first : Parts
  pub edits : List Edit
  pub bank : Parts

-- the step is accepted by the bank, and appended to the list of edits
pub record IsDoneStep (old new : Parts) (was now : List Edit) (s : Step) : Type 0 where
  pub is_accepted : IsAccepted old (One s)
  pub changed : new ≡ raw old (One s)
  pub listed : now ≡ was ++ One s ∷ []

-- neither the bank nor the list is changed
pub record IsNoStep (old new : Parts) (was now : List Edit) : Type 0 where
  pub bank : new ≡ old
  pub list : now ≡ was

-- a step is applied and listed, or nothing changes
abbrev pub IsStepResult : {Why : Type 0} → Parts → Parts → List Edit → List Edit → Step → Result (Unit {0}) Why → Type 0
IsStepResult old new was now s (Ok done) = IsDoneStep old new was now s
IsStepResult old new was now s (Err why) = IsNoStep old new was now

-- the moves are accepted in order by the bank, and appended to the list of edits
pub record AreDoneMoves (old new : Parts) (was now : List Edit) (moves : List SampleMove) : Type 0 where
  pub are_accepted : AllAccepted old (map move_edit moves)
  pub changed : new ≡ samples_moved old moves
  pub listed : now ≡ was ++ map move_edit moves

-- moves are applied and listed, or nothing changes
abbrev pub AreMovesResult : {Why : Type 0} → Parts → Parts → List Edit → List Edit → List SampleMove
    → Result (Unit {0}) Why → Type 0
AreMovesResult old new was now moves (Ok done) = AreDoneMoves old new was now moves
AreMovesResult old new was now moves (Err why) = IsNoStep old new was now
