-- What undo and redo do.
use Rattle.std.specs.Prelude.{◌≡◌, ℤ, pos, Result, Ok, Err}
use Rattle.edit_refusals.specs.declared.refusal.Refusal.{Refusal}
use Rattle.edit_refusals.specs.RefusalNames.{refusal_number}
use Rattle.inverse_edits.specs.Histories.{History, MovesForward, IsUndoFailure, IsRedoFailure}

abbrev pub IsUndo : {U : Type 0} → History → History → Result U Refusal → Type 0
IsUndo old new (Ok u) = MovesForward new old
IsUndo old new (Err why) = (new ≡ old) × IsUndoFailure old why

abbrev pub IsRedo : {U : Type 0} → History → History → Result U Refusal → Type 0
IsRedo old new (Ok u) = MovesForward old new
IsRedo old new (Err why) = (new ≡ old) × IsRedoFailure old why

-- ---- for C

abbrev pub session_status : {U : Type 0} → Result U Refusal → ℤ
session_status (Ok u) = pos 0
session_status (Err why) = pos (refusal_number why)

-- an undo, with its status
pub record AnswersUndo (old new : History) (status : ℤ) : Type 0 where
  pub result : Result (Unit {0}) Refusal
  pub undo : IsUndo old new result
  pub status_is : status ≡ session_status result

-- a redo, with its status
pub record AnswersRedo (old new : History) (status : ℤ) : Type 0 where
  pub result : Result (Unit {0}) Refusal
  pub redo : IsRedo old new result
  pub status_is : status ≡ session_status result
