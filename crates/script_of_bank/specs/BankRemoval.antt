-- The edits that remove all parts of a bank, which leaves the empty bank of its minor version: its presets,
-- its instruments, the links of its samples, the samples and the texts, each from the last to the first.
use Rattle.std.specs.Prelude.{◌++◌, ℕ, zero, suc, List, [], ◌∷◌, length}
use Rattle.bank_parts.specs.declared.texts.InfoId.{InfoId}
use Rattle.bank_parts.specs.declared.texts.InfoId.TheVariants as id
use Rattle.bank_parts.specs.declared.texts.Texts.{Texts}
use Rattle.bank_parts.specs.declared.parts.Kind.{Kind}
use Rattle.bank_parts.specs.declared.parts.Kind.TheVariants.{Mono, Right, Left, Linked}
use Rattle.bank_parts.specs.declared.parts.Sample.{Sample}
use Rattle.bank_parts.specs.declared.parts.Parts.{Parts}
use Rattle.bank_parts.specs.Texts.{text_of}
use Rattle.edit_forms.specs.declared.step.Step.{Step}
use Rattle.edit_forms.specs.declared.presets.PresetStep.TheVariants.{RemovePreset}
use Rattle.edit_forms.specs.declared.instruments.InstrumentStep.TheVariants.{RemoveInstrument}
use Rattle.edit_forms.specs.declared.samples.SampleStep.TheVariants.{RemoveSample}
use Rattle.edit_forms.specs.declared.points.PointStep.TheVariants.{SetKind}
use Rattle.edit_forms.specs.declared.texts.TextStep.TheVariants.{SetInfo}
use Rattle.edit_forms.specs.declared.step.Step.TheVariants as steps
use Rattle.edit_forms.specs.declared.edit.Edit.{Edit}
use Rattle.edit_forms.specs.declared.edit.Edit.TheVariants.{One}
use Rattle.script_tokens.specs.declared.printing.Piece.TheVariants.{Number}
use Rattle.script_tokens.specs.Printing.{line_text}
use Rattle.script_of_bank.specs.BankEdits.{empty_texts}

-- the edits for each member, those of the last member first; the first member has the number n
abbrev pub in_reverse : {X : Type 0} → (ℕ → X → List Edit) → ℕ → List X → List Edit
in_reverse edits n [] = []
in_reverse edits n (x ∷ xs) = in_reverse edits (suc n) xs ++ edits n x

-- removes this many members, from the last to the first
abbrev pub removals : (ℕ → Step) → ℕ → List Edit
removals remove zero = []
removals remove (suc n) = One (remove n) ∷ removals remove n

-- makes a linked sample mono
abbrev pub mono_edits : ℕ → Kind → List Edit
mono_edits i Mono = []
mono_edits i (Right link) = One (steps.Points i (SetKind Mono)) ∷ []
mono_edits i (Left link) = One (steps.Points i (SetKind Mono)) ∷ []
mono_edits i (Linked link) = One (steps.Points i (SetKind Mono)) ∷ []

-- removes the link of a sample that has one
abbrev pub unlink_edits : ℕ → Sample → List Edit
unlink_edits i s = mono_edits i s.kind

-- resets a text to its value in the empty bank, unless it is empty
abbrev pub reset_edits : InfoId → List ℕ → List Edit
reset_edits id [] = []
reset_edits id (byte ∷ text) = One (steps.Text (SetInfo id (text_of empty_texts id))) ∷ []

-- resets each text that is not empty, from the last to the first
abbrev pub resets : Texts → List Edit
resets t =
    reset_edits id.Software t.software
    ++ (reset_edits id.Comment t.comment
    ++ (reset_edits id.Copyright t.copyright
    ++ (reset_edits id.Product t.product
    ++ (reset_edits id.Engineers t.engineers
    ++ (reset_edits id.Date t.date
    ++ (reset_edits id.Name t.name
    ++ reset_edits id.Engine t.engine))))))

abbrev pub remove_preset : ℕ → Step
remove_preset n = steps.Preset (RemovePreset n)

abbrev pub remove_instrument : ℕ → Step
remove_instrument n = steps.Instrument (RemoveInstrument n)

abbrev pub remove_sample : ℕ → Step
remove_sample n = steps.Sample (RemoveSample n)

-- the edits that lead from this bank to the empty bank
abbrev pub removal_edits : Parts → List Edit
removal_edits b =
    removals remove_preset (length b.presets)
    ++ (removals remove_instrument (length b.instruments)
    ++ (in_reverse unlink_edits 0 b.samples
    ++ (removals remove_sample (length b.samples)
    ++ resets b.texts)))

-- ---- the lines of these edits

-- a word and the number of each member, from the last to the first
abbrev pub removal_lines : List ℕ → ℕ → List ℕ
removal_lines word zero = []
removal_lines word (suc n) = line_text word (Number n ∷ []) ++ removal_lines word n
