-- The forms of step, a row each: the parser of the form's operands, with its laws, and the step that is made
-- of their values.
use Rattle.std.proofs.Common.{◌≡◌, ◌∙◌, ℕ, Bool, true, false, cond, List, [], ◌∷◌, ◌++◌, Option, Some, None, refl, ap}
use Rattle.std.specs.Str.{bytes_eq}
use Rattle.edit_forms.specs.declared.step.Step.{Step}
use Rattle.edit_forms.specs.declared.presets.PresetStep.TheVariants.{AddPreset, RemovePreset, MovePreset, SetHead}
use Rattle.edit_forms.specs.declared.instruments.InstrumentStep.TheVariants.{AddInstrument, RemoveInstrument}
use Rattle.edit_forms.specs.declared.instruments.InstrumentStep.TheVariants.{RenameInstrument, MoveInstrument}
use Rattle.edit_forms.specs.declared.samples.SampleStep.TheVariants.{RenameSample, AddSample, RemoveSample, MoveSample}
use Rattle.edit_forms.specs.declared.points.PointStep.TheVariants.{Trim, Extend, SetLoop, SetKind, SetTune}
use Rattle.edit_forms.specs.declared.zones.ZoneStep.TheVariants.{AddZone, RemoveZone, MoveZone, SplitZone, JoinZone}
use Rattle.edit_forms.specs.declared.zones.ZoneStep.TheVariants.{SetTarget}
use Rattle.edit_forms.specs.declared.settings.SettingStep.TheVariants.{SetGen, ClearGen, AddMod, RemoveMod, SetMod}
use Rattle.edit_forms.specs.declared.texts.TextStep.TheVariants.{SetInfo}
use Rattle.edit_forms.specs.declared.step.Step.TheVariants as steps
use Rattle.edit_forms.specs.Fits.{FitsStep}
use Rattle.script_tokens.specs.declared.cursor.TokenValue.{TokenValue}
use Rattle.script_tokens.specs.Parsers.{Parser, ◌>>=◌, pure}
use Rattle.script_grammar.specs.Operands.{Operand}
use Rattle.script_grammar.specs.Zones.{zone}
use Rattle.script_steps.specs.Forms.{Form, form_word, form_in}
use Rattle.script_steps.specs.Presets as presets
use Rattle.script_steps.specs.Presets.{placed_head}
use Rattle.script_steps.specs.Instruments as instruments
use Rattle.script_steps.specs.Samples as samples
use Rattle.script_steps.specs.Points as points
use Rattle.script_steps.specs.Zones as zones
use Rattle.script_steps.specs.Settings as settings
use Rattle.script_steps.specs.Texts as texts
use Rattle.script_steps.specs.Members.{indexed_name}
use Rattle.script_steps.specs.Owners.{owner_zone}
use Rattle.script_steps.specs.Grammar.{forms, word_of, operands, EncodesStep}
use Rattle.script_steps.proofs.Lawful.{IsLawful, ◌&◌, of_two, of_more, index, number16, number8, an_axis, a_keep}
use Rattle.script_steps.proofs.Lawful.{an_id, a_text, a_body, some_points, a_kind, a_loop, a_tune}
use Rattle.script_steps.proofs.Lawful.{a_generator, a_modulator}
use Rattle.script_steps.proofs.OwnerLaws.{names, moves, heads, owner_zones, owner_places}
use Rattle.script_steps.proofs.TextFormLaws.{HasLawfulForms, one_form, adds_zone, added, adds_owner, owner_parts}

-- the step has the word, only these operands encode it, they are printed, and it fits where its values do
abbrev pub IsOf : List ℕ → Step → (List Operand → Type 0) → List Operand → Type 0 → Type 1
IsOf w s Encodes printed Fits =
    (word_of s ≡ w) × (EncodesStep s ≡ Encodes) × (operands s ≡ printed) × (Fits → FitsStep s) × (FitsStep s → Fits)

-- a row: the form's word, a parser with its laws, and the step that is made of the values read
pub record Row (f : Form) : Type 1 where
  pub Value : Type 0
  pub part : Parser Value
  pub Encodes : Value → List Operand → Type 0
  pub printed : Value → List Operand
  pub Fits : Value → Type 0
  pub lawful : HasLawfulForms part Encodes printed Fits
  pub make : Value → Step
  pub reads : (line : List TokenValue) → f.1 line ≡ (part >>= λ x. pure (make x)) line
  pub is : (x : Value) → IsOf f.0 (make x) (Encodes x) (printed x) (Fits x)

-- a row of a part with several text forms
abbrev spelt : {f : Form} {X : Type 0} {p : Parser X} {S : X → List Operand → Type 0} {o : X → List Operand}
    {F : X → Type 0}
    → HasLawfulForms p S o F → (make : X → Step) → ((line : List TokenValue) → f.1 line ≡ (p >>= λ x. pure (make x)) line)
    → ((x : X) → IsOf f.0 (make x) (S x) (o x) (F x)) → Row f
spelt {p = p} {S} {o} {F} l make reads is =
    record {
      Value = _;
      part = p;
      Encodes = S;
      printed = o;
      Fits = F;
      lawful = l;
      make = make;
      reads = reads;
      is = is;
    }

-- rows of one part with one text form, of two, and of three, as the form reads them
abbrev one : {f : Form} {X : Type 0} {p : Parser X} {o : X → List Operand} {F : X → Type 0} → IsLawful p o F
    → (make : X → Step) → f.1 ≡ (p >>= λ x. pure (make x))
    → ((x : X) → IsOf f.0 (make x) (λ os. os ≡ o x) (o x) (F x)) → Row f
one l make reads is = spelt (one_form l) make (λ line. ap (λ (p : Parser Step). p line) reads) is

abbrev two : {f : Form} {X Y : Type 0} {p : Parser X} {q : Parser Y} {o : X → List Operand} {r : Y → List Operand}
    {F : X → Type 0} {G : Y → Type 0}
    → IsLawful p o F → IsLawful q r G → (make : X → Y → Step) → f.1 ≡ (p >>= λ x. q >>= λ y. pure (make x y))
    → ((x : X) (y : Y) → IsOf f.0 (make x y) (λ os. os ≡ o x ++ r y) (o x ++ r y) (F x × G y)) → Row f
two {p = p} {q} l m make reads is =
    spelt (one_form (l & m)) (λ a. make a.0 a.1)
    (λ line. ap (λ (p : Parser Step). p line) reads ∙ of_two p q make line) (λ a. is a.0 a.1)

abbrev three : {f : Form} {X Y Z : Type 0} {p : Parser X} {q : Parser Y} {t : Parser Z} {o : X → List Operand}
    {r : Y → List Operand} {u : Z → List Operand} {F : X → Type 0} {G : Y → Type 0} {H : Z → Type 0}
    → IsLawful p o F → IsLawful q r G → IsLawful t u H → (make : X → Y → Z → Step)
    → f.1 ≡ (p >>= λ x. q >>= λ y. t >>= λ z. pure (make x y z))
    →
    ((x : X) (y : Y) (z : Z)
    → IsOf f.0 (make x y z) (λ os. os ≡ o x ++ (r y ++ u z)) (o x ++ (r y ++ u z)) (F x × (G y × H z)))
    → Row f
three {p = p} {q} {t} l m n make reads is =
    spelt (one_form (l & m & n)) (λ a. make a.0 a.1.0 a.1.1)
    (λ line.
    ap (λ (p : Parser Step). p line) reads
    ∙ of_more p (m & n) (λ x b. make x b.0 b.1) (λ x. of_two q t (make x)) line)
    (λ a. is a.0 a.1.0 a.1.1)

-- ---- the rows of several forms

abbrev pub RowsOf : List Form → Type 1
RowsOf [] = Unit {1}
RowsOf (f ∷ fs) = Row f × RowsOf fs

pub record AreRows (fs : List Form) : Type 1 where
  pub rows : RowsOf fs

infixr 5 ◌and◌
abbrev ◌and◌ : {f : Form} {fs : List Form} → Row f → AreRows fs → AreRows (f ∷ fs)
r and rs = record { rows = (r, rs.rows) }

abbrev none : AreRows []
none = record { rows = tt }

-- the rows of two lists
abbrev in_both : (fs gs : List Form) → RowsOf fs → RowsOf gs → RowsOf (fs ++ gs)
in_both [] gs rs ss = ss
in_both (f ∷ fs) gs rs ss = (rs.0, in_both fs gs rs.1 ss)

infixl 5 ◌also◌
abbrev ◌also◌ : {fs gs : List Form} → AreRows fs → AreRows gs → AreRows (fs ++ gs)
◌also◌ {fs} {gs} r s = record { rows = in_both fs gs r.rows s.rows }

abbrev pub preset_rows : AreRows presets.forms
unfolding presets.forms presets.add_preset presets.remove_preset presets.move_preset presets.set_head
preset_rows =
    spelt (adds_owner heads) (λ a. steps.Preset (AddPreset a.0.0 (added a)))
    (owner_parts placed_head (λ at preset. steps.Preset (AddPreset at preset)))
    (λ a. (refl, refl, refl, λ h. h, λ h. h))
    and one index (λ p. steps.Preset (RemovePreset p)) refl (λ p. (refl, refl, refl, λ h. h, λ h. h))
    and one moves (λ m. steps.Preset (MovePreset m.0 m.1)) refl (λ m. (refl, refl, refl, λ h. h, λ h. h))
    and three names number16 number16 (λ n number bank. steps.Preset (SetHead n.0 n.1 number bank)) refl
    (λ n number bank. (refl, refl, refl, λ h. (h.0.0, h.0.1, h.1.0, h.1.1), λ h. ((h.0, h.1), (h.2, h.3))))
    and none

abbrev pub instrument_rows : AreRows instruments.forms
unfolding instruments.forms instruments.add_instrument instruments.remove_instrument
    instruments.rename_instrument instruments.move_instrument
instrument_rows =
    spelt (adds_owner names) (λ a. steps.Instrument (AddInstrument a.0.0 (added a)))
    (owner_parts indexed_name (λ at instrument. steps.Instrument (AddInstrument at instrument)))
    (λ a. (refl, refl, refl, λ h. h, λ h. h))
    and one index (λ i. steps.Instrument (RemoveInstrument i)) refl (λ i. (refl, refl, refl, λ h. h, λ h. h))
    and one names (λ n. steps.Instrument (RenameInstrument n.0 n.1)) refl (λ n. (refl, refl, refl, λ h. h, λ h. h))
    and one moves (λ m. steps.Instrument (MoveInstrument m.0 m.1)) refl (λ m. (refl, refl, refl, λ h. h, λ h. h))
    and none

abbrev pub sample_rows : AreRows samples.forms
unfolding samples.forms samples.rename_sample samples.add_sample samples.remove_sample samples.move_sample
sample_rows =
    one names (λ n. steps.Sample (RenameSample n.0 n.1)) refl (λ n. (refl, refl, refl, λ h. h, λ h. h))
    and two index a_body (λ s sample. steps.Sample (AddSample s sample)) refl
    (λ s sample. (refl, refl, refl, λ h. h, λ h. h))
    and one index (λ s. steps.Sample (RemoveSample s)) refl (λ s. (refl, refl, refl, λ h. h, λ h. h))
    and one moves (λ m. steps.Sample (MoveSample m.0 m.1)) refl (λ m. (refl, refl, refl, λ h. h, λ h. h))
    and none

abbrev pub point_rows : AreRows points.forms
unfolding points.forms points.trim points.extend points.set_loop points.set_kind points.set_tune
point_rows =
    three index index index (λ s front back. steps.Points s (Trim front back)) refl
    (λ s front back. (refl, refl, refl, λ h. h, λ h. h))
    and three index some_points some_points (λ s front back. steps.Points s (Extend front back)) refl
    (λ s front back. (refl, refl, refl, λ h. h, λ h. h))
    and two index a_loop (λ s l. steps.Points s (SetLoop l)) refl (λ s l. (refl, refl, refl, λ h. h, λ h. h))
    and two index a_kind (λ s k. steps.Points s (SetKind k)) refl (λ s k. (refl, refl, refl, λ h. h, λ h. h))
    and two index a_tune (λ s t. steps.Points s (SetTune t.0 t.1 t.2)) refl
    (λ s t. (refl, refl, refl, λ h. h, λ h. h))
    and none

abbrev pub zone_rows : AreRows zones.forms
unfolding zones.forms zones.add_zone zones.remove_zone zones.move_zone zones.split_zone zones.join_zone zones.set_target
zone_rows =
    spelt adds_zone (λ a. steps.Zone a.0.0 (AddZone a.0.1 a.1))
    (of_two owner_zone zone (λ z content. steps.Zone z.0 (AddZone z.1 content)))
    (λ a. (refl, refl, refl, λ h. h, λ h. h))
    and one owner_zones (λ z. steps.Zone z.0 (RemoveZone z.1)) refl (λ z. (refl, refl, refl, λ h. h, λ h. h))
    and two owner_zones index (λ z to. steps.Zone z.0 (MoveZone z.1 to)) refl
    (λ z to. (refl, refl, refl, λ h. (h.0.0, (h.0.1, h.1)), λ h. ((h.0, h.1.0), h.1.1)))
    and three owner_zones an_axis number8 (λ z axis at. steps.Zone z.0 (SplitZone z.1 axis at)) refl
    (λ z axis at. (refl, refl, refl, λ h. (h.0.0, (h.0.1, h.1.1)), λ h. ((h.0, h.1.0), (tt, h.1.1))))
    and three owner_zones an_axis a_keep (λ z axis kept. steps.Zone z.0 (JoinZone z.1 axis kept)) refl
    (λ z axis kept. (refl, refl, refl, λ h. h.0, λ h. (h, (tt, tt))))
    and two owner_zones number16 (λ z target. steps.Zone z.0 (SetTarget z.1 target)) refl
    (λ z target. (refl, refl, refl, λ h. (h.0.0, (h.0.1, h.1)), λ h. ((h.0, h.1.0), h.1.1)))
    and none

abbrev pub setting_rows : AreRows settings.forms
unfolding settings.forms settings.set_gen settings.clear_gen settings.add_mod settings.remove_mod settings.set_mod
setting_rows =
    two owner_places a_generator (λ p g. steps.Setting p.0 p.1 (SetGen g.0 g.1)) refl
    (λ p g. (refl, refl, refl, λ h. (h.0.0, h.0.1, h.1), λ h. ((h.0, h.1), h.2)))
    and two owner_places number16 (λ p operator. steps.Setting p.0 p.1 (ClearGen operator)) refl
    (λ p operator. (refl, refl, refl, λ h. (h.0.0, h.0.1, h.1), λ h. ((h.0, h.1), h.2)))
    and three owner_places index a_modulator (λ p j m. steps.Setting p.0 p.1 (AddMod j m)) refl
    (λ p j m. (refl, refl, refl, λ h. (h.0.0, h.0.1, h.1), λ h. ((h.0, h.1), h.2)))
    and two owner_places index (λ p j. steps.Setting p.0 p.1 (RemoveMod j)) refl
    (λ p j. (refl, refl, refl, λ h. (h.0.0, h.0.1, h.1), λ h. ((h.0, h.1), h.2)))
    and three owner_places index a_modulator (λ p j m. steps.Setting p.0 p.1 (SetMod j m)) refl
    (λ p j m. (refl, refl, refl, λ h. (h.0.0, h.0.1, h.1), λ h. ((h.0, h.1), h.2)))
    and none

abbrev pub text_rows : AreRows texts.forms
unfolding texts.forms texts.set_info
text_rows =
    two an_id a_text (λ id text. steps.Text (SetInfo id text)) refl
    (λ id text. (refl, refl, refl, λ h. h.1, λ h. (tt, h)))
    and none

abbrev pub rows : AreRows forms
rows =
    preset_rows also instrument_rows also sample_rows also point_rows also zone_rows also setting_rows also text_rows

-- ---- the row of a word

abbrev pub RowOf : Option Form → Type 1
RowOf None = Unit {1}
RowOf (Some f) = Row f

abbrev first_row : (b : Bool) (f : Form) (o : Option Form) → Row f → RowOf o → RowOf (cond b (Some f) o)
first_row true f o r s = r
first_row false f o r s = s

abbrev pub at : (fs : List Form) → RowsOf fs → (w : List ℕ) → RowOf (form_in fs w)
at [] rs w = tt
at (f ∷ fs) rs w = first_row (bytes_eq w (form_word f)) f (form_in fs w) rs.0 (at fs rs.1 w)

-- the values from which a row makes a step
abbrev pub ValueOf : (o : Option Form) → RowOf o → Step → Type 0
ValueOf None r s = ⊥
ValueOf (Some f) r s = (x : r.Value) × (r.make x ≡ s)

-- the values from which a step is made
pub values : (s : Step) → ValueOf (form_in forms (word_of s)) (at forms rows.rows (word_of s)) s
unfolding presets.forms instruments.forms samples.forms points.forms zones.forms settings.forms texts.forms
    preset_rows instrument_rows sample_rows point_rows zone_rows setting_rows text_rows
values (steps.Preset (AddPreset at preset)) = (((at, preset.head), (preset.global, preset.zones)), refl)
values (steps.Preset (RemovePreset preset)) = (preset, refl)
values (steps.Preset (MovePreset from to)) = ((from, to), refl)
values (steps.Preset (SetHead preset name number bank)) = (((preset, name), (number, bank)), refl)
values (steps.Instrument (AddInstrument at instrument)) =
    (((at, instrument.head), (instrument.global, instrument.zones)), refl)
values (steps.Instrument (RemoveInstrument instrument)) = (instrument, refl)
values (steps.Instrument (RenameInstrument instrument name)) = ((instrument, name), refl)
values (steps.Instrument (MoveInstrument from to)) = ((from, to), refl)
values (steps.Sample (RenameSample sample name)) = ((sample, name), refl)
values (steps.Sample (AddSample at sample)) = ((at, sample), refl)
values (steps.Sample (RemoveSample sample)) = (sample, refl)
values (steps.Sample (MoveSample from to)) = ((from, to), refl)
values (steps.Points sample (Trim front back)) = ((sample, (front, back)), refl)
values (steps.Points sample (Extend front back)) = ((sample, (front, back)), refl)
values (steps.Points sample (SetLoop looped)) = ((sample, looped), refl)
values (steps.Points sample (SetKind kind)) = ((sample, kind), refl)
values (steps.Points sample (SetTune rate key correction)) = ((sample, (rate, key, correction)), refl)
values (steps.Zone o (AddZone at zone)) = (((o, at), zone), refl)
values (steps.Zone o (RemoveZone zone)) = ((o, zone), refl)
values (steps.Zone o (MoveZone from to)) = (((o, from), to), refl)
values (steps.Zone o (SplitZone zone axis at)) = (((o, zone), (axis, at)), refl)
values (steps.Zone o (JoinZone zone axis kept)) = (((o, zone), (axis, kept)), refl)
values (steps.Zone o (SetTarget zone target)) = (((o, zone), target), refl)
values (steps.Setting o at (SetGen operator amount)) = (((o, at), (operator, amount)), refl)
values (steps.Setting o at (ClearGen operator)) = (((o, at), operator), refl)
values (steps.Setting o at (AddMod index modulator)) = (((o, at), (index, modulator)), refl)
values (steps.Setting o at (RemoveMod index)) = (((o, at), index), refl)
values (steps.Setting o at (SetMod index modulator)) = (((o, at), (index, modulator)), refl)
values (steps.Text (SetInfo id text)) = ((id, text), refl)
