-- The text of a refusal: its number, its name and its details.
use Rattle.std.specs.Prelude.{ℕ, List, [], ◌∷◌, ◌++◌, Option, Some, None}
use Rattle.std.specs.List.{flat_map}
use Rattle.bank_validity.specs.declared.limits.Limit.{Limit}
use Rattle.bank_validity.specs.Limits.{word_of}
use Rattle.edit_forms.specs.declared.cause.Cause.{Cause}
use Rattle.edit_forms.specs.CauseNames as causes
use Rattle.edit_refusals.specs.declared.refusal.Refusal.{Refusal}
use Rattle.edit_refusals.specs.declared.refusal.Refusal.TheVariants.{Of, OutOfMemory, NothingToUndo, NothingToRedo}
use Rattle.edit_refusals.specs.declared.refusal.Refusal.TheVariants.{GroupRefused}
use Rattle.edit_refusals.specs.RefusalNames as refusals
use Rattle.script_tokens.specs.declared.printing.Piece.{Piece}
use Rattle.script_tokens.specs.declared.printing.Piece.TheVariants.{Number, Word}
use Rattle.script_tokens.specs.Printing.{spaced}

-- the limit that a bank would exceed
abbrev pub limit_pieces : Option Limit → List Piece
limit_pieces (Some limit) = Word (word_of limit) ∷ []
limit_pieces None = []

-- the index of a step of a group, counted from 0, and the cause to refuse it
abbrev pub step_pieces : ℕ → Cause → List Piece
step_pieces step cause = Number step ∷ Number (causes.number_of cause) ∷ Word (causes.name_of cause) ∷ []

-- what follows the name of a refusal
abbrev pub detail_pieces : Refusal → List Piece
detail_pieces (Of cause) = limit_pieces (causes.limit_of cause)
detail_pieces (GroupRefused step cause) = step_pieces step cause ++ limit_pieces (causes.limit_of cause)
detail_pieces OutOfMemory = []
detail_pieces NothingToUndo = []
detail_pieces NothingToRedo = []

-- why an edit, an undo or a redo is refused, by number and name
abbrev pub reason_pieces : Refusal → List Piece
reason_pieces why = Number (refusals.refusal_number why) ∷ Word (refusals.refusal_name why) ∷ detail_pieces why

-- the same as a text, each piece after a space
abbrev pub refusal_text : Refusal → List ℕ
refusal_text why = flat_map spaced (reason_pieces why)
