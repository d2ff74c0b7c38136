-- Neutral edits, form by form: an accepted edit meets the conditions of its form's law. R is any relation of banks that
-- holds if they have the same pairs, or if their zones have the same voices for each note.
use Rattle.std.proofs.Common.{◌≡◌, ℕ, true, false, None, Some, Option, List, refl}
use Rattle.std.specs.List.{list_any}
use Rattle.std.specs.Option.{option_map}
use Rattle.bank_parts.specs.declared.parts.Parts.{Parts}
use Rattle.bank_parts.specs.Owners.{targets}
use Rattle.bank_parts.specs.Sound.{IsSound}
use Rattle.bank_changes.specs.Samples.{sample_in_use}
use Rattle.bank_changes.specs.Instruments.{instrument_in_use}
use Rattle.bank_changes.proofs.Everywhere.{or_left}
use Rattle.edit_forms.specs.declared.step.Step.{Step}
use Rattle.edit_forms.specs.declared.step.Step.TheVariants as steps
use Rattle.edit_forms.specs.declared.instruments.InstrumentStep.{InstrumentStep}
use Rattle.edit_forms.specs.declared.instruments.InstrumentStep.TheVariants.{AddInstrument, RemoveInstrument}
use Rattle.edit_forms.specs.declared.instruments.InstrumentStep.TheVariants.{RenameInstrument, MoveInstrument}
use Rattle.edit_forms.specs.declared.samples.SampleStep.{SampleStep}
use Rattle.edit_forms.specs.declared.samples.SampleStep.TheVariants.{RenameSample, AddSample, RemoveSample, MoveSample}
use Rattle.edit_forms.specs.declared.points.PointStep.{PointStep}
use Rattle.edit_forms.specs.declared.points.PointStep.TheVariants.{Trim, Extend, SetLoop, SetKind, SetTune}
use Rattle.edit_forms.specs.declared.zones.ZoneStep.{ZoneStep}
use Rattle.edit_forms.specs.declared.zones.ZoneStep.TheVariants.{AddZone, RemoveZone, MoveZone, SplitZone, JoinZone}
use Rattle.edit_forms.specs.declared.zones.ZoneStep.TheVariants.{SetTarget}
use Rattle.edit_forms.specs.declared.texts.TextStep.TheVariants.{SetInfo}
use Rattle.bank_changes.specs.declared.members.Owner.{Owner}
use Rattle.edit_forms.specs.declared.edit.Edit.{Edit}
use Rattle.edit_forms.specs.declared.edit.Edit.TheVariants.{One, Group}
use Rattle.edit_forms.specs.Fits.{FitsStep}
use Rattle.edit_forms.specs.declared.cause.Cause.{Cause}
use Rattle.edit_refusals.specs.declared.refusal.Refusal.TheVariants.{Of}
use Rattle.edit_forms.specs.Steps.{raw, refusal, is_neutral_step}
use Rattle.edit_refusals.specs.Edits as edits
use Rattle.edit_refusals.proofs.Accepted.{accepted}
use Rattle.edit_refusals.proofs.SampleLaws.{add_sample_allowed, remove_sample_allowed, moves_sample}
use Rattle.edit_refusals.proofs.InstrumentLaws.{add_instrument_allowed, remove_instrument_allowed, moves_instrument}
use Rattle.edit_refusals.proofs.ZoneLaws.{can_of_split_zone, can_of_join_zone}
use Rattle.bank_edits.specs.Undone.{IsAccepted}
use Rattle.zone_select.specs.Select.{Voice}
use Rattle.zone_select.specs.Pairs.{listed}
use Rattle.zone_select.specs.Alike.{AreAlike, HavePairsAlike, HaveSamePairs}
use Rattle.zone_select.proofs.Given.{GivenAlike}
use Rattle.zone_select.proofs.Correspond.{alike, alike_by_same, one, pairs_alike, pairs_by_same}
use Rattle.zone_select.proofs.NeutralLaws.{sample_added_alike, sample_removed_alike, sample_moved_alike}
use Rattle.zone_select.proofs.NeutralLaws.{sample_renamed_alike, kind_set_alike, instrument_added_alike}
use Rattle.zone_select.proofs.NeutralLaws.{instrument_removed_alike, instrument_moved_alike}
use Rattle.zone_select.proofs.NeutralLaws.{instrument_renamed_alike, zone_moved_alike, zone_split_alike}
use Rattle.zone_select.proofs.NeutralLaws.{zone_joined_alike, info_set_alike}
use Rattle.sound_neutral_edits.specs.Neutral.{is_neutral}

-- ---- no zone targets what is removed

untargeted_sample : (b : Parts) (i : ℕ) → sample_in_use b i ≡ false → list_any (targets i) b.instruments ≡ false
unfolding sample_in_use
untargeted_sample b i h = or_left (list_any (targets i) b.instruments) _ h

untargeted_instrument : (b : Parts) (i : ℕ) → instrument_in_use b i ≡ false → list_any (targets i) b.presets ≡ false
unfolding instrument_in_use
untargeted_instrument b i h = h

no_cause : (c : Option Cause) → option_map Of c ≡ None → c ≡ None
no_cause None h = refl
no_cause (Some cause) h = cc

-- ---- the forms

module _ {X : Type 0} (g : Option Voice → List X) (R : Parts → Parts → Type 0)
    (same : (b c : Parts) → HaveSamePairs b c → R b c) (given : (b c : Parts) → GivenAlike g b c → R b c) where
  instrument_kept : (b : Parts) (s : InstrumentStep) → FitsStep (steps.Instrument s)
      → refusal b (steps.Instrument s) ≡ None → R b (raw b (steps.Instrument s))
  instrument_kept b (AddInstrument at x) fits h =
      instrument_added_alike R same b at x (add_instrument_allowed b at x fits.1 h).place
  instrument_kept b (RemoveInstrument i) fits h =
      instrument_removed_alike R same b i
      (untargeted_instrument b i
      (remove_instrument_allowed b i (accepted b (steps.Instrument (RemoveInstrument i)) h).tests).free)
  instrument_kept b (RenameInstrument i name) fits h = instrument_renamed_alike R same b i name
  instrument_kept b (MoveInstrument i j) fits h =
      let m = moves_instrument b i j h in instrument_moved_alike R same b i j m.there m.place

  sample_kept : (b : Parts) (s : SampleStep) → refusal b (steps.Sample s) ≡ None → R b (raw b (steps.Sample s))
  sample_kept b (RenameSample i name) h = sample_renamed_alike R same b i name
  sample_kept b (AddSample at s) h =
      sample_added_alike R same b at s (add_sample_allowed b at s (accepted b (steps.Sample (AddSample at s)) h).tests).place
  sample_kept b (RemoveSample i) h =
      sample_removed_alike R same b i
      (untargeted_sample b i (remove_sample_allowed b i (accepted b (steps.Sample (RemoveSample i)) h).tests).free)
  sample_kept b (MoveSample i j) h = let m = moves_sample b i j h in sample_moved_alike R same b i j m.there m.place

  points_kept : (b : Parts) (i : ℕ) (s : PointStep) → is_neutral_step (steps.Points i s) ≡ true
      → R b (raw b (steps.Points i s))
  points_kept b i (Trim front back) n = absurd cc
  points_kept b i (Extend front back) n = absurd cc
  points_kept b i (SetLoop looped) n = absurd cc
  points_kept b i (SetKind kind) n = kind_set_alike R same b i kind
  points_kept b i (SetTune rate key correction) n = absurd cc

  zone_kept : (b : Parts) (o : Owner) (s : ZoneStep) → IsSound b → FitsStep (steps.Zone o s)
      → refusal b (steps.Zone o s) ≡ None → is_neutral_step (steps.Zone o s) ≡ true
      → R b (raw b (steps.Zone o s))
  zone_kept b o (AddZone at zone) sound fits h n = absurd cc
  zone_kept b o (RemoveZone zone) sound fits h n = absurd cc
  zone_kept b o (MoveZone i j) sound fits h n = zone_moved_alike g R given b o i j
  zone_kept b o (SplitZone k axis m) sound fits h n =
      zone_split_alike g R given b o k axis m fits.1.1 (can_of_split_zone b o k axis m h)
  zone_kept b o (JoinZone k axis kept) sound fits h n =
      zone_joined_alike g R given b o k axis kept sound.valid (can_of_join_zone b o k axis kept h)
  zone_kept b o (SetTarget zone target) sound fits h n = absurd cc

  step_kept : (b : Parts) (s : Step) → IsSound b → FitsStep s → refusal b s ≡ None → is_neutral_step s ≡ true
      → R b (raw b s)
  step_kept b (steps.Preset s) sound fits h n = absurd cc
  step_kept b (steps.Instrument s) sound fits h n = instrument_kept b s fits h
  step_kept b (steps.Sample s) sound fits h n = sample_kept b s h
  step_kept b (steps.Points i s) sound fits h n = points_kept b i s n
  step_kept b (steps.Zone o s) sound fits h n = zone_kept b o s sound fits h n
  step_kept b (steps.Setting o at s) sound fits h n = absurd cc
  step_kept b (steps.Text (SetInfo id text)) sound fits h n = info_set_alike R same b id text

  neutral_kept : (b : Parts) (e : Edit) → IsSound b → IsAccepted b e → is_neutral e ≡ true → R b (edits.raw b e)
  neutral_kept b (One s) sound t n = step_kept b s sound t.fits (no_cause (refusal b s) t.accepted) n
  neutral_kept b (Group group) sound t n = absurd cc

pub neutral_alike : (b : Parts) (e : Edit) → IsSound b → IsAccepted b e → is_neutral e ≡ true
    → AreAlike b (edits.raw b e)
neutral_alike = neutral_kept listed AreAlike alike_by_same alike

pub neutral_pairs : (b : Parts) (e : Edit) → IsSound b → IsAccepted b e → is_neutral e ≡ true
    → HavePairsAlike b (edits.raw b e)
neutral_pairs = neutral_kept one HavePairsAlike pairs_by_same pairs_alike
