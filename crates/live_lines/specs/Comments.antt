-- What an answer says after `#`.
use Rattle.std.specs.Prelude.{◌≡◌, ◌⊎◌, ◌≤◌, ◌-◌, ◌==◌, ◌||◌, ℕ, nat_lt, if◌then◌else◌, codes, List, ◌++◌, length, map, take}
use Rattle.edit_forms.specs.declared.edit.Edit.{Edit}
use Rattle.edit_script.specs.Printing.{text_of}
use Rattle.live_lines.specs.declared.comment.TheConstants.{LONGEST}

-- a control character is shown as `?`
abbrev pub visible : ℕ → ℕ
visible b = if nat_lt b 32 || b == 127 then 63 else b

-- the first bytes of a text, and dots
pub record IsCut (text shown : List ℕ) : Type 0 where
  pub count : ℕ
  pub few : count ≤ LONGEST
  pub is : shown ≡ map visible (take count text) ++ codes ".."

-- a comment shows a text whole, or its first bytes and dots
abbrev pub IsShown : List ℕ → List ℕ → Type 0
IsShown text shown = (shown ≡ map visible text) ⊎ IsCut text shown

-- a comment shows a part of a line
pub record ShowsPart (line shown : List ℕ) : Type 0 where
  pub before : List ℕ
  pub part : List ℕ
  pub after : List ℕ
  pub parts : line ≡ before ++ part ++ after
  pub is : IsShown part shown

-- the line of an edit, without its line feed
abbrev pub edit_line : Edit → List ℕ
edit_line e = take (length (text_of e) - 1) (text_of e)
