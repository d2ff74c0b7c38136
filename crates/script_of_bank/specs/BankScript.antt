-- A bank as a text: a script that is run on the empty bank.
use Rattle.std.specs.Prelude.{◌≡◌, ℕ, List, [], ◌∷◌, ◌++◌, map, codes, Ok}
use Rattle.bank_parts.specs.declared.parts.Sample.{Sample}
use Rattle.bank_parts.specs.declared.parts.Parts.{Parts}
use Rattle.bank_parts.specs.Sound.{IsSound}
use Rattle.edit_forms.specs.declared.edit.Edit.{Edit}
use Rattle.script_tokens.specs.declared.printing.Piece.TheVariants.{Number, Word}
use Rattle.script_tokens.specs.Printing.{line_text}
use Rattle.edit_script.specs.declared.parsing.Line.{Line}
use Rattle.edit_script.specs.Script.{script_of}
use Rattle.edit_script.specs.Printing.{numbered, texts_of}
use Rattle.script_of_bank.specs.declared.samples.SamplePoints.{SamplePoints}
use Rattle.script_of_bank.specs.declared.samples.SamplePoints.TheVariants.{Kept, LeftOut}
use Rattle.script_of_bank.specs.BankEdits.{empty, sample_edits, edits_of_bank}
use Rattle.script_of_bank.specs.LeadsTo.{Leads, edits_between}

-- ---- with and without points

-- all points, or none
abbrev pub selected_points : SamplePoints → List ℕ → List ℕ
selected_points Kept points = points
selected_points LeftOut points = []

-- a sample with its points, or without
abbrev pub selected_sample : SamplePoints → Sample → Sample
selected_sample how s = record s { points = selected_points how s.points }

-- adds a sample with its points, or without
abbrev pub selected_edits : SamplePoints → ℕ → Sample → List Edit
selected_edits how i s = sample_edits i (selected_sample how s)

-- a bank with its points, or without
abbrev pub with_points : SamplePoints → Parts → Parts
with_points Kept b = b
with_points LeftOut b = record b { samples = map (selected_sample LeftOut) b.samples }

-- ---- the script

-- the command that creates the empty bank, as a comment
unfoldable pub first_line : SamplePoints → ℕ → List ℕ
first_line Kept minor = line_text (codes "# sfbank new --minor") (Number minor ∷ [])
first_line LeftOut minor =
    line_text (codes "# sfbank new --minor") (Number minor ∷ Word (codes "without") ∷ Word (codes "points") ∷ [])

-- the script that creates a bank from the empty bank
unfoldable pub bank_script : SamplePoints → Parts → List ℕ
bank_script points b = first_line points b.minor ++ texts_of (edits_of_bank (with_points points b))

-- ---- laws

-- the text is a script whose edits lead from one bank to the other
pub record IsScript (from : Parts) (text : List ℕ) (to : Parts) : Type 0 where
  pub lines : List Line
  pub read : script_of text ≡ Ok lines
  pub leads : Leads from (map (λ (l : Line). l.edit) lines) to

-- the text of a sound bank is a script that leads to it from the empty bank
abbrev pub TextGivesBank : Type 0
TextGivesBank = (b : Parts) → IsSound b → IsScript (empty b.minor) (bank_script Kept b) b

-- with or without points, the text is read as the edits that list the bank, from line 2 on
abbrev pub TextListsEdits : Type 0
TextListsEdits =
    (how : SamplePoints) (b : Parts) → IsSound b
    → script_of (bank_script how b) ≡ Ok (numbered 2 (edits_of_bank (with_points how b)))

-- two different banks have different texts
abbrev pub TextDeterminesBank : Type 0
TextDeterminesBank = (a b : Parts) → IsSound a → IsSound b → bank_script Kept a ≡ bank_script Kept b → a ≡ b

-- the text that replaces a bank with another of its minor version is a script with that effect
abbrev pub ReplacementLeads : Type 0
ReplacementLeads =
    (a b : Parts) → IsSound a → IsSound b → a.minor ≡ b.minor → IsScript a (texts_of (edits_between a b)) b
