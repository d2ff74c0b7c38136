-- The script of a bank with comments.
use Rattle.std.specs.Prelude.{◌≡◌, ◌++◌, ℕ, List, Ok}
use Rattle.bank_parts.specs.declared.parts.Parts.{Parts}
use Rattle.bank_parts.specs.Sound.{IsSound}
use Rattle.edit_script.specs.Script.{script_of}
use Rattle.edit_script.specs.Printing.{numbered}
use Rattle.script_comments.specs.Comments.{comment_of}
use Rattle.script_comments.specs.Lines.{commented}
use Rattle.script_of_bank.specs.declared.samples.SamplePoints.{SamplePoints}
use Rattle.script_of_bank.specs.declared.samples.SamplePoints.TheVariants.{Kept}
use Rattle.script_of_bank.specs.BankEdits.{empty, edits_of_bank}
use Rattle.script_of_bank.specs.BankScript.{first_line, with_points, IsScript}

-- the script that creates a bank from the empty bank, each line with the names that members have in the bank
unfoldable pub commented_script : SamplePoints → Parts → List ℕ
commented_script points b = first_line points b.minor ++ commented (comment_of b) (edits_of_bank (with_points points b))

-- ---- laws

-- with or without points, the text is read as the edits that list the bank, from line 2 on, as is the text without
-- comments
abbrev pub CommentedTextListsEdits : Type 0
CommentedTextListsEdits =
    (how : SamplePoints) (b : Parts) → IsSound b
    → script_of (commented_script how b) ≡ Ok (numbered 2 (edits_of_bank (with_points how b)))

-- the text of a sound bank is a script that leads to it from the empty bank
abbrev pub CommentedTextGivesBank : Type 0
CommentedTextGivesBank = (b : Parts) → IsSound b → IsScript (empty b.minor) (commented_script Kept b) b

-- two different banks have different texts
abbrev pub CommentedTextDeterminesBank : Type 0
CommentedTextDeterminesBank =
    (a b : Parts) → IsSound a → IsSound b → commented_script Kept a ≡ commented_script Kept b → a ≡ b
