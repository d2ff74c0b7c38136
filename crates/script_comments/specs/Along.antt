-- The comments of edits, of which each changes the bank for the next.
use Rattle.std.specs.Prelude.{◌≡◌, ℕ, false, List, [], ◌∷◌, length, map, take, drop, slice_get}
use Rattle.std.specs.Option.{option_map}
use Rattle.std.specs.List.{flat_map, AllByRecursion}
use Rattle.bank_parts.specs.declared.parts.Parts.{Parts}
use Rattle.bank_parts.specs.Sound.{IsSound}
use Rattle.edit_forms.specs.declared.edit.Edit.{Edit}
use Rattle.edit_refusals.specs.Edits.{raw}
use Rattle.bank_edits.specs.Runs.{AllAccepted, after_all}
use Rattle.script_comments.specs.declared.along.EditComments.{EditComments}
use Rattle.script_comments.specs.Comments.{comment_of}
use Rattle.script_comments.specs.Items.{comment_text}
use Rattle.script_comments.specs.Names.{name_item}
use Rattle.script_comments.specs.Lines.{IsComment}

-- each comment with the names of the bank before its edit
abbrev pub comments_of : Parts → List Edit → List (List ℕ)
comments_of b [] = []
comments_of b (e ∷ es) = comment_of b e ∷ comments_of (raw b e) es

-- the comment of an edit whose only name this is
abbrev pub name_comment : List ℕ → List ℕ
name_comment name = comment_text false (name_item name ∷ [])

-- bytes split into pieces of these lengths
abbrev pub pieces : List ℕ → List ℕ → List (List ℕ)
pieces [] bytes = []
pieces (n ∷ ns) bytes = take n bytes ∷ pieces ns (drop n bytes)

-- the comments that are kept
abbrev pub comments_in : EditComments → List (List ℕ)
comments_in kept = pieces kept.lengths.items kept.bytes.items

-- exactly these comments are kept: their bytes one after another, and the length of each
pub record Holds (kept : EditComments) (cs : List (List ℕ)) : Type 0 where
  pub bytes : kept.bytes.items ≡ flat_map (λ c. c) cs
  pub lengths : kept.lengths.items ≡ map length cs

-- The comment of edit k has the names of the bank after the first k edits.
abbrev pub CommentsFollowTheBank : Type 0
CommentsFollowTheBank =
    (b : Parts) (es : List Edit) (k : ℕ)
    → slice_get (comments_of b es) k ≡ option_map (comment_of (after_all b (take k es))) (slice_get es k)

-- They are comments, if the bank accepts the edits.
abbrev pub CommentsAlongAreComments : Type 0
CommentsAlongAreComments =
    (b : Parts) (es : List Edit) → IsSound b → AllAccepted b es → AllByRecursion IsComment (comments_of b es)
