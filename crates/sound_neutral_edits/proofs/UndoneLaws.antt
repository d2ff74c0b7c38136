-- The inverse of a neutral edit is neutral.
use Rattle.std.proofs.Common.{◌≡◌, ℕ, true, Bool, Option, Some, None, slice_get, refl}
use Rattle.std.specs.Option.{option_map_or}
use Rattle.bank_parts.specs.declared.parts.Parts.{Parts}
use Rattle.bank_changes.specs.declared.members.Owner.{Owner}
use Rattle.bank_changes.specs.Members.{zone_of}
use Rattle.edit_forms.specs.declared.points.PointStep.{PointStep}
use Rattle.edit_forms.specs.declared.points.PointStep.TheVariants.{Trim, Extend, SetLoop, SetKind, SetTune}
use Rattle.edit_forms.specs.declared.zones.ZoneStep.{ZoneStep}
use Rattle.edit_forms.specs.declared.zones.ZoneStep.TheVariants.{AddZone, RemoveZone, MoveZone, SplitZone, JoinZone}
use Rattle.edit_forms.specs.declared.zones.ZoneStep.TheVariants.{SetTarget}
use Rattle.edit_forms.specs.declared.step.Step.{Step}
use Rattle.edit_forms.specs.declared.step.Step.TheVariants as steps
use Rattle.edit_forms.specs.declared.edit.Edit.{Edit}
use Rattle.edit_forms.specs.declared.edit.Edit.TheVariants.{One, Group}
use Rattle.edit_forms.specs.Points as points
use Rattle.edit_forms.specs.Zones as zones
use Rattle.edit_forms.specs.Steps.{is_neutral_step, inverse}
use Rattle.bank_edits.specs.EditChanges as edits
use Rattle.sound_neutral_edits.specs.Neutral.{is_neutral}

-- in either case
either : {X S : Type 0} (neutral : S → Bool) (o : Option X) (f : X → S) (d : S) → ((x : X) → neutral (f x) ≡ true)
    → neutral d ≡ true → neutral (option_map_or f o d) ≡ true
either neutral None f d h k = k
either neutral (Some x) f d h k = h x

points_back : (b : Parts) (i : ℕ) (s : PointStep) → points.is_neutral s ≡ true
    → points.is_neutral (points.inverse b i s) ≡ true
points_back b i (Trim front back) n = absurd cc
points_back b i (Extend front back) n = absurd cc
points_back b i (SetLoop looped) n = absurd cc
points_back b i (SetKind kind) n = either points.is_neutral (slice_get b.samples i) _ _ (λ x. refl) refl
points_back b i (SetTune rate key correction) n = absurd cc

zone_back : (b : Parts) (o : Owner) (s : ZoneStep) → zones.is_neutral s ≡ true
    → zones.is_neutral (zones.inverse b o s) ≡ true
zone_back b o (AddZone at zone) n = absurd cc
zone_back b o (RemoveZone zone) n = absurd cc
zone_back b o (MoveZone i j) n = refl
zone_back b o (SplitZone k axis m) n = either zones.is_neutral (zone_of b o k) _ _ (λ x. refl) refl
zone_back b o (JoinZone k axis kept) n = either zones.is_neutral (zone_of b o _) _ _ (λ x. refl) refl
zone_back b o (SetTarget zone target) n = absurd cc

step_back : (b : Parts) (s : Step) → is_neutral_step s ≡ true → is_neutral_step (inverse b s) ≡ true
step_back b (steps.Preset s) n = absurd cc
step_back b (steps.Instrument s) n = refl
step_back b (steps.Sample s) n = refl
step_back b (steps.Points i s) n = points_back b i s n
step_back b (steps.Zone o s) n = zone_back b o s n
step_back b (steps.Setting o at s) n = absurd cc
step_back b (steps.Text s) n = refl

pub neutral_back : (b : Parts) (e : Edit) → is_neutral e ≡ true → is_neutral (edits.inverse b e) ≡ true
neutral_back b (One s) n = step_back b s n
neutral_back b (Group group) n = absurd cc
