-- The tests that an owner and a place exist, before and after a change of the place.
use Rattle.std.proofs.Common.{◌≡◌, ◌<◌, ℕ, nat_le, false, List, [], length, Option, Some, None, refl, ◌∙◌, ap, arith}
use Rattle.std.specs.Prelude.{IsSome, IsSomeAnd, IfSome, unwrap_or}
use Rattle.std.specs.Option.{option_map}
use Rattle.base_numbered_lists.proofs.Lists.{length-changed}
use Rattle.modulators.specs.declared.modulator.Modulator.{Modulator}
use Rattle.bank_parts.specs.declared.owners.ZonePlace.{ZonePlace}
use Rattle.bank_parts.specs.declared.owners.ZonePlace.TheVariants as there
use Rattle.bank_parts.specs.declared.parts.Zone.{Zone}
use Rattle.bank_parts.specs.declared.parts.ZoneOwner.{ZoneOwner}
use Rattle.bank_parts.specs.declared.parts.Parts.{Parts}
use Rattle.bank_parts.specs.Owners.{zone_count_at}
use Rattle.bank_parts.specs.Settings.{Settings, settings_of_zone, zone_with_settings, settings_changed, place_changed}
use Rattle.bank_parts.proofs.SettingLaws.{changed_unseen, mods_of_settings, place_read}
use Rattle.bank_parts.proofs.UndoneLaws.{settings_there}
use Rattle.bank_changes.specs.declared.members.Owner.{Owner}
use Rattle.bank_changes.specs.declared.members.Owner.TheVariants.{Preset, Inst}
use Rattle.bank_changes.specs.declared.members.Place.{Place}
use Rattle.bank_changes.specs.declared.members.Place.TheVariants as place
use Rattle.bank_changes.specs.Members.{zone_place, settings_of, mods_of}
use Rattle.bank_changes.specs.Settings.{owner_place_changed}
use Rattle.edit_forms.specs.Causes.{no_such_owner, no_such_zone_at, zone_total, mods_there}
use Rattle.edit_refusals.proofs.Accepted.{below}

-- ---- an existing place

counted : (count : Option ℕ) (k : ℕ) → nat_le (unwrap_or count 0) k ≡ false → IsSomeAnd count (λ n. k < n)
counted None k h = let none = below 0 k h in absurd (omega (arith, none))
counted (Some n) k h = below n k h

-- the generators and modulators of an existing place
pub place_found : (b : Parts) (o : Owner) (at : Place) → (no_such_owner b o).applies ≡ false
    → (no_such_zone_at b o at).applies ≡ false → (s : Settings) × (settings_of b o at ≡ Some s)
place_found b (Preset p) place.Global owner zone =
    settings_there b.presets p there.Global (below (length b.presets) p owner)
place_found b (Preset p) (place.Zone k) owner zone =
    settings_there b.presets p (there.Zone k) (counted (zone_count_at b.presets p) k zone)
place_found b (Inst i) place.Global owner zone =
    settings_there b.instruments i there.Global (below (length b.instruments) i owner)
place_found b (Inst i) (place.Zone k) owner zone =
    settings_there b.instruments i (there.Zone k) (counted (zone_count_at b.instruments i) k zone)

pub mods_found : (b : Parts) (o : Owner) (at : Place) (s : Settings) → settings_of b o at ≡ Some s
    → mods_of b o at ≡ Some s.mods
mods_found b (Preset p) at s e =
    mods_of_settings b.presets p (zone_place at) ∙ ap (option_map (λ (s : Settings). s.mods)) e
mods_found b (Inst i) at s e =
    mods_of_settings b.instruments i (zone_place at) ∙ ap (option_map (λ (s : Settings). s.mods)) e

pub mods_there_are : (b : Parts) (o : Owner) (at : Place) (s : Settings) → settings_of b o at ≡ Some s
    → mods_there b o at ≡ s.mods
mods_there_are b o at s e = ap (λ (mods : Option (List Modulator)). unwrap_or mods []) (mods_found b o at s e)

-- the same, in the form that the methods of `Bank` require

pub some_settings : (b : Parts) (o : Owner) (at : Place) (s : Settings) → settings_of b o at ≡ Some s
    → IsSome (settings_of b o at)
some_settings b o at s e = rw e refl

pub there_found : (b : Parts) (o : Owner) (at : Place) → (no_such_owner b o).applies ≡ false
    → (no_such_zone_at b o at).applies ≡ false → IsSome (settings_of b o at)
there_found b o at owner zone = let (s, e) = place_found b o at owner zone in some_settings b o at s e

pub mods_hold : (b : Parts) (o : Owner) (at : Place) (s : Settings) → settings_of b o at ≡ Some s
    → (P : List Modulator → Type 0) → P s.mods → IfSome (mods_of b o at) P
mods_hold b o at s e P h = rw (mods_found b o at s e) h

-- ---- after a change of the place

as_many : {H : Type 0} (at : ZonePlace) (f : Settings → Settings) (x : ZoneOwner H)
    → length (settings_changed at f x).zones ≡ length x.zones
as_many there.Global f x = refl
as_many (there.Zone k) f x = length-changed x.zones k (λ (z : Zone). zone_with_settings (f (settings_of_zone z)) z)

zone_counts_stay : {H : Type 0} (owners : List (ZoneOwner H)) (i : ℕ) (at : ZonePlace) (f : Settings → Settings)
    → zone_count_at (place_changed owners i at f) i ≡ zone_count_at owners i
zone_counts_stay {H} owners i at f =
    changed_unseen (option_map (λ (x : ZoneOwner H). length x.zones)) owners i i (settings_changed at f)
    (λ (x : ZoneOwner H). ap Some (as_many at f x))

pub zone_total_stays : (b : Parts) (o : Owner) (at : Place) (f : Settings → Settings)
    → zone_total (owner_place_changed b o at f) o ≡ zone_total b o
zone_total_stays b (Preset p) at f =
    ap (λ (n : Option ℕ). unwrap_or n 0) (zone_counts_stay b.presets p (zone_place at) f)
zone_total_stays b (Inst i) at f =
    ap (λ (n : Option ℕ). unwrap_or n 0) (zone_counts_stay b.instruments i (zone_place at) f)

pub owner_stays_there : (b : Parts) (o : Owner) (at : Place) (f : Settings → Settings)
    → (no_such_owner b o).applies ≡ false → (no_such_owner (owner_place_changed b o at f) o).applies ≡ false
owner_stays_there b (Preset p) at f h =
    ap (λ n. nat_le n p) (length-changed b.presets p (settings_changed (zone_place at) f)) ∙ h
owner_stays_there b (Inst i) at f h =
    ap (λ n. nat_le n i) (length-changed b.instruments i (settings_changed (zone_place at) f)) ∙ h

pub place_stays_there : (b : Parts) (o : Owner) (at : Place) (f : Settings → Settings)
    → (no_such_zone_at b o at).applies ≡ false → (no_such_zone_at (owner_place_changed b o at f) o at).applies ≡ false
place_stays_there b o place.Global f h = refl
place_stays_there b o (place.Zone k) f h = ap (λ n. nat_le n k) (zone_total_stays b o (place.Zone k) f) ∙ h

-- what the place has after the change
settings_read : (b : Parts) (o : Owner) (at : Place) (f : Settings → Settings)
    → settings_of (owner_place_changed b o at f) o at ≡ option_map f (settings_of b o at)
settings_read b (Preset p) at f = place_read b.presets p (zone_place at) f
settings_read b (Inst i) at f = place_read b.instruments i (zone_place at) f

pub settings_after : (b : Parts) (o : Owner) (at : Place) (f : Settings → Settings) (s : Settings)
    → settings_of b o at ≡ Some s → settings_of (owner_place_changed b o at f) o at ≡ Some (f s)
settings_after b o at f s e = settings_read b o at f ∙ ap (option_map f) e
