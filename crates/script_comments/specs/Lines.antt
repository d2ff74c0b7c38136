-- Lines with comments at their ends.
use Rattle.std.specs.Prelude.{◌≡◌, ℕ, List, [], ◌∷◌, ◌++◌, ◌-◌, length, take, drop, not, IsTrue}
use Rattle.std.specs.List.{flat_map, list_all, AllByRecursion}
use Rattle.bank_parts.specs.declared.parts.Parts.{Parts}
use Rattle.bank_parts.specs.Sound.{IsSound}
use Rattle.edit_forms.specs.declared.edit.Edit.{Edit}
use Rattle.script_tokens.specs.Lines.{is_feed}
use Rattle.script_tokens.specs.Tokens.{ends_well}
use Rattle.script_tokens.specs.TextForm.{HasNoTokens}
use Rattle.edit_script.specs.Printing.{text_of, texts_of, numbered, AllFit}
use Rattle.edit_script.specs.Script.{script_of}
use Rattle.edit_script.specs.TextForm.{Spells}
use Rattle.script_comments.specs.Comments.{comment_of}

-- ---- the text

-- a line without its line feed
abbrev pub before_feed : List ℕ → List ℕ
before_feed text = take (length text - 1) text

-- the line of an edit with a comment before its line feed
abbrev pub commented_line : Edit → List ℕ → List ℕ
commented_line e comment = before_feed (text_of e) ++ (comment ++ 10 ∷ [])

-- lines with a comment for each edit
abbrev pub commented : (Edit → List ℕ) → List Edit → List ℕ
commented comment es = flat_map (λ (e : Edit). commented_line e (comment e)) es

-- the first comment, empty if there is none
abbrev pub first_comment : List (List ℕ) → List ℕ
first_comment [] = []
first_comment (c ∷ cs) = c

-- lines with comments in turn
abbrev pub commented_in_turn : List Edit → List (List ℕ) → List ℕ
commented_in_turn [] cs = []
commented_in_turn (e ∷ es) cs = commented_line e (first_comment cs) ++ commented_in_turn es (drop 1 cs)

-- ---- the laws

-- nothing, or a blank, and then blanks and a comment, on the same line
pub record IsComment (comment : List ℕ) : Type 0 where
  pub silent : HasNoTokens comment
  pub apart : IsTrue (ends_well comment)
  pub one_line : IsTrue (list_all (λ b. not (is_feed b)) comment)

-- The comment of an edit is one, in each sound bank.
abbrev pub CommentsAreComments : Type 0
CommentsAreComments = (b : Parts) (e : Edit) → IsSound b → IsComment (comment_of b e)

-- Lines with comments encode the same edits.
abbrev pub CommentsAreSkipped : Type 0
CommentsAreSkipped =
    (es : List Edit) (cs : List (List ℕ)) → AllFit es → AllByRecursion IsComment cs
    → Spells (commented_in_turn es cs) (numbered 1 es)

-- The same of a comment for each edit.
abbrev pub EachCommentIsSkipped : Type 0
EachCommentIsSkipped =
    (comment : Edit → List ℕ) (es : List Edit) → AllFit es → ((e : Edit) → IsComment (comment e))
    → Spells (commented comment es) (numbered 1 es)

-- So they are read as the lines without comments.
abbrev pub CommentedIsReadAlike : Type 0
CommentedIsReadAlike =
    (es : List Edit) (cs : List (List ℕ)) → AllFit es → AllByRecursion IsComment cs
    → script_of (commented_in_turn es cs) ≡ script_of (texts_of es)

-- Empty comments leave the lines as they are.
abbrev pub EmptyCommentsAreNone : Type 0
EmptyCommentsAreNone = (es : List Edit) → commented (λ e. []) es ≡ texts_of es
