-- The texts of the answers, one line each.
use Rattle.std.specs.Prelude.{ℕ, List, [], ◌∷◌, codes, Option}
use Rattle.std.specs.Option.{option_map_or}
use Rattle.edit_refusals.specs.declared.refusal.Refusal.{Refusal}
use Rattle.edit_refusals.specs.declared.refusal.Refusal.TheVariants.{Of, OutOfMemory, NothingToUndo, NothingToRedo}
use Rattle.edit_refusals.specs.declared.refusal.Refusal.TheVariants.{GroupRefused}
use Rattle.base_outputs.specs.declared.output_fault.OutputFault.{OutputFault}
use Rattle.base_outputs.specs.OutputFaults as outputs
use Rattle.script_tokens.specs.declared.printing.Piece.{Piece}
use Rattle.script_tokens.specs.declared.printing.Piece.TheVariants.{Number, Word}
use Rattle.script_tokens.specs.Printing.{line_text}
use Rattle.edit_script.specs.RefusalText.{reason_pieces}
use Rattle.live_lines.specs.declared.answer.Answer.{Answer}
use Rattle.live_lines.specs.declared.answer.Answer.TheVariants as answers
use Rattle.live_lines.specs.declared.fault.RequestFault.{RequestFault}
use Rattle.live_lines.specs.Faults as faults

-- why an edit, an undo or a redo is refused
abbrev pub refused_line : Refusal → List ℕ
refused_line why = line_text (codes "refused") (reason_pieces why)

-- out of memory has no number
abbrev pub no_memory : List ℕ
no_memory = codes "out of memory\n"

abbrev pub refused_text : Refusal → List ℕ
refused_text (Of cause) = refused_line (Of cause)
refused_text OutOfMemory = no_memory
refused_text NothingToUndo = refused_line NothingToUndo
refused_text NothingToRedo = refused_line NothingToRedo
refused_text (GroupRefused step cause) = refused_line (GroupRefused step cause)

-- a comment, after `#`
abbrev pub comment_pieces : List ℕ → List Piece
comment_pieces comment = Word (codes "#") ∷ Word comment ∷ []

-- a fault of a line, by its number and its name, and the comment, if there is one
abbrev pub fault_text : RequestFault → Option (List ℕ) → List ℕ
fault_text fault comment =
    line_text (codes "fault")
    (Number (faults.number_of fault) ∷ Word (faults.name_of fault) ∷ option_map_or comment_pieces comment [])

-- a failed write, and how much of the file was written
abbrev pub write_text : List ℕ → ℕ → List ℕ
write_text path written =
    line_text (codes "write")
    (Word (codes "fault") ∷ Word path ∷ Word (codes "after") ∷ Number written ∷ Word (codes "bytes") ∷ [])

-- a rejected output, by the number and the name of its fault, and its path
abbrev pub rejected_text : List ℕ → OutputFault → List ℕ
rejected_text path fault =
    line_text (codes "refused")
    (Number (outputs.number_of fault) ∷ Word (outputs.name_of fault) ∷ Word path ∷ [])

-- the line of an answer, with its line feed
unfoldable pub answer_text : Answer → List ℕ
answer_text answers.Done = line_text (codes "ok") []
answer_text (answers.Counted count) = line_text (codes "ok") (Number count ∷ [])
answer_text (answers.Moved comment) = line_text (codes "ok") (comment_pieces comment)
answer_text (answers.Measured one other) = line_text (codes "ok") (Number one ∷ Number other ∷ [])
answer_text (answers.Refused why) = refused_text why
answer_text answers.NotNeutral = line_text (codes "refused") (Number 50 ∷ Word (codes "NotNeutral") ∷ [])
answer_text (answers.Fault fault comment) = fault_text fault comment
answer_text answers.OutOfMemory = no_memory
answer_text (answers.WriteFault path written) = write_text path written
answer_text (answers.Rejected path fault) = rejected_text path fault
