-- A bank as a list of edits that lead to it from the empty bank.
use Rattle.std.specs.Prelude.{◌++◌, ℕ, suc, List, [], ◌∷◌, codes}
use Rattle.bank_parts.specs.declared.texts.InfoId.{InfoId}
use Rattle.bank_parts.specs.declared.texts.InfoId.TheVariants as id
use Rattle.bank_parts.specs.declared.texts.Texts.{Texts}
use Rattle.bank_parts.specs.declared.parts.Kind.{Kind}
use Rattle.bank_parts.specs.declared.parts.Kind.TheVariants.{Mono, Right, Left, Linked}
use Rattle.bank_parts.specs.declared.parts.Head.{Head}
use Rattle.bank_parts.specs.declared.parts.ZoneOwner.{ZoneOwner}
use Rattle.bank_parts.specs.declared.parts.Sample.{Sample}
use Rattle.bank_parts.specs.declared.parts.Parts.{Parts}
use Rattle.bank_changes.specs.Points.{with_kind}
use Rattle.edit_forms.specs.declared.presets.PresetStep.TheVariants.{AddPreset}
use Rattle.edit_forms.specs.declared.instruments.InstrumentStep.TheVariants.{AddInstrument}
use Rattle.edit_forms.specs.declared.samples.SampleStep.TheVariants.{AddSample}
use Rattle.edit_forms.specs.declared.points.PointStep.TheVariants.{SetKind}
use Rattle.edit_forms.specs.declared.texts.TextStep.TheVariants.{SetInfo}
use Rattle.edit_forms.specs.declared.step.Step.TheVariants as steps
use Rattle.edit_forms.specs.declared.edit.Edit.{Edit}
use Rattle.edit_forms.specs.declared.edit.Edit.TheVariants.{One}

-- the texts of the empty bank
abbrev pub empty_texts : Texts
empty_texts =
    record {
      engine =
          codes "EMU8000";
      name =
          [];
      date = [];
      engineers = [];
      product = [];
      copyright = [];
      comment = [];
      software = [];
    }

-- the empty bank of a minor version
abbrev pub empty : ℕ → Parts
empty minor = record { minor = minor; texts = empty_texts; presets = []; instruments = []; samples = [] }

-- the edits for each member in order; the first member has the number n
abbrev pub in_turn : {X : Type 0} → (ℕ → X → List Edit) → ℕ → List X → List Edit
in_turn edits n [] = []
in_turn edits n (x ∷ xs) = edits n x ++ in_turn edits (suc n) xs

-- ---- the parts of a bank

-- sets a text, unless it is empty
abbrev pub text_edits : InfoId → List ℕ → List Edit
text_edits id [] = []
text_edits id (byte ∷ text) = One (steps.Text (SetInfo id (byte ∷ text))) ∷ []

-- sets each text that is not empty
abbrev pub texts_edits : Texts → List Edit
texts_edits t =
    text_edits id.Engine t.engine
    ++ (text_edits id.Name t.name
    ++ (text_edits id.Date t.date
    ++ (text_edits id.Engineers t.engineers
    ++ (text_edits id.Product t.product
    ++ (text_edits id.Copyright t.copyright
    ++ (text_edits id.Comment t.comment
    ++ text_edits id.Software t.software))))))

-- adds a sample as mono, as its linked sample may not exist yet
abbrev pub sample_edits : ℕ → Sample → List Edit
sample_edits i s = One (steps.Sample (AddSample i (with_kind Mono s))) ∷ []

-- sets the kind of an existing sample, unless it is mono
abbrev pub kind_edits : ℕ → Kind → List Edit
kind_edits i Mono = []
kind_edits i (Right link) = One (steps.Points i (SetKind (Right link))) ∷ []
kind_edits i (Left link) = One (steps.Points i (SetKind (Left link))) ∷ []
kind_edits i (Linked link) = One (steps.Points i (SetKind (Linked link))) ∷ []

-- sets the link of a sample that has one
abbrev pub link_edits : ℕ → Sample → List Edit
link_edits i s = kind_edits i s.kind

-- adds an instrument
abbrev pub instrument_edits : ℕ → ZoneOwner (List ℕ) → List Edit
instrument_edits i x = One (steps.Instrument (AddInstrument i x)) ∷ []

-- adds a preset
abbrev pub preset_edits : ℕ → ZoneOwner Head → List Edit
preset_edits i x = One (steps.Preset (AddPreset i x)) ∷ []

-- ---- the bank

-- the edits that lead from the empty bank to this bank
abbrev pub edits_of_bank : Parts → List Edit
edits_of_bank b =
    texts_edits b.texts
    ++ (in_turn sample_edits 0 b.samples
    ++ (in_turn link_edits 0 b.samples
    ++ (in_turn instrument_edits 0 b.instruments
    ++ in_turn preset_edits 0 b.presets)))
