-- The raw changes of generators and modulators: each keeps a bank sound, and can be undone.
use Rattle.std.proofs.Common.{◌≡◌, ◌<◌, ◌≤◌, ◌+◌, ◌^◌, ℕ, List, length, insert, remove, take, drop, ◌∷◌, Some, None}
use Rattle.std.proofs.Common.{IsSome, refl, sym, ◌∙◌, ap, subst, arith}
use Rattle.std.specs.Prelude.{◌-◌, slice_set, if◌then◌else◌, ◌==◌}
use Rattle.std.specs.Option.{option_and_then}
use Rattle.std.specs.List.{AllByRecursion}
use Rattle.std.specs.FinMap.{len}
use Rattle.std.specs.FinMap as map
use Rattle.std.proofs.lemmas.Bool.Decides.{nat_tests}
use Rattle.std.proofs.lemmas.List.{length-append, take-append-drop}
use Rattle.std.proofs.lemmas.List.Edits.{length-remove}
use Rattle.base_numbered_lists.proofs.Lists.{length-slice_set}
use Rattle.generators.specs.Gens.{FitsEntry}
use Rattle.generators.specs.declared.level.Level.{Level}
use Rattle.generators.proofs.EntryLaws as entries
use Rattle.generators.proofs.MapLaws as gens
use Rattle.modulators.specs.declared.modulator.Modulator.{Modulator}
use Rattle.modulators.specs.Modulators.{FitsModulator}
use Rattle.bank_parts.specs.declared.counting.Records.{Records}
use Rattle.bank_parts.specs.declared.parts.Parts.{Parts}
use Rattle.bank_parts.specs.Settings.{Settings, with_gens, with_mods}
use Rattle.bank_parts.specs.Valid.{IsGenerator}
use Rattle.bank_parts.specs.Sound.{IsSound}
use Rattle.bank_validity.specs.Limits.{totals_of, broken_limit, with_records}
use Rattle.bank_parts.proofs.UndoneLaws.{amount_of_settings}
use Rattle.bank_changes.specs.declared.members.Owner.{Owner}
use Rattle.bank_changes.specs.declared.members.Owner.TheVariants.{Preset, Inst}
use Rattle.bank_changes.specs.declared.members.Place.{Place}
use Rattle.bank_changes.specs.declared.members.Place.TheVariants as place
use Rattle.bank_changes.specs.Members.{zone_place, settings_of, level_of, amount_of}
use Rattle.bank_changes.specs.Settings.{gen_set, gen_cleared, mod_added, mod_removed, mod_set}
use Rattle.bank_changes.specs.Settings.{records_of_place, place_records, zones_at}
use Rattle.bank_changes.proofs.Changes.{all_set}
use Rattle.bank_changes.proofs.Everywhere.{all_insert, all_remove}
use Rattle.bank_changes.proofs.PlaceLaws.{Keeps, sound_place_changed, within_no_more, records_found, found_there}
use Rattle.bank_changes.proofs.PlaceLaws.{place_grown}

-- ---- each keeps what holds of all settings

gen_set_keeps : (lvl : Level) (op amount : ℕ) → IsGenerator lvl (op, amount) → op < 2 ^ 16 → amount < 2 ^ 16
    → Keeps lvl (λ s. with_gens (map.insert s.gens op amount) s)
gen_set_keeps lvl op amount is p q = record {
  valid = λ s h. entries.All-insert (IsGenerator lvl) s.gens op amount is h;
  fits = λ s h. record { gens = entries.All-insert FitsEntry s.gens op amount (p, q) h.gens; mods = h.mods };
}

gen_cleared_keeps : (lvl : Level) (op : ℕ) → Keeps lvl (λ s. with_gens (map.remove s.gens op) s)
gen_cleared_keeps lvl op = record {
  valid = λ s h. entries.All-remove (IsGenerator lvl) s.gens op h;
  fits = λ s h. record { gens = entries.All-remove FitsEntry s.gens op h.gens; mods = h.mods };
}

mods_keep : (lvl : Level) (change : List Modulator → List Modulator)
    → ((mods : List Modulator) → AllByRecursion FitsModulator mods → AllByRecursion FitsModulator (change mods))
    → Keeps lvl (λ s. with_mods (change s.mods) s)
mods_keep lvl change keeps = record {
  valid = λ s h. h;
  fits = λ s h. record { gens = h.gens; mods = keeps s.mods h.mods };
}

-- ---- each keeps a bank sound

module _ (b : Parts) (o : Owner) (at : Place) (sound : IsSound b) where
  pub sound_gen_set : (op amount : ℕ) → IsGenerator (level_of o) (op, amount) → op < 2 ^ 16 → amount < 2 ^ 16
      → broken_limit (gen_set b o at op amount) ≡ None → IsSound (gen_set b o at op amount)
  sound_gen_set op amount is p q =
      sound_place_changed b o at (λ s. with_gens (map.insert s.gens op amount) s) sound
      (gen_set_keeps (level_of o) op amount is p q)

  pub sound_gen_cleared : (op : ℕ) → broken_limit (gen_cleared b o at op) ≡ None → IsSound (gen_cleared b o at op)
  sound_gen_cleared op =
      sound_place_changed b o at (λ s. with_gens (map.remove s.gens op) s) sound (gen_cleared_keeps (level_of o) op)

  pub sound_mod_added : (j : ℕ) (m : Modulator) → FitsModulator m → broken_limit (mod_added b o at j m) ≡ None
      → IsSound (mod_added b o at j m)
  sound_mod_added j m fits =
      sound_place_changed b o at (λ s. with_mods (insert s.mods j m) s) sound
      (mods_keep (level_of o) (λ mods. insert mods j m) (λ mods all. all_insert FitsModulator mods j m fits all))

  pub sound_mod_removed : (j : ℕ) → broken_limit (mod_removed b o at j) ≡ None → IsSound (mod_removed b o at j)
  sound_mod_removed j =
      sound_place_changed b o at (λ s. with_mods (remove s.mods j) s) sound
      (mods_keep (level_of o) (λ mods. remove mods j) (λ mods all. all_remove FitsModulator mods j all))

  pub sound_mod_set : (j : ℕ) (m : Modulator) → FitsModulator m → broken_limit (mod_set b o at j m) ≡ None
      → IsSound (mod_set b o at j m)
  sound_mod_set j m fits =
      sound_place_changed b o at (λ s. with_mods (slice_set s.mods j m) s) sound
      (mods_keep (level_of o) (λ mods. slice_set mods j m) (λ mods all. all_set FitsModulator mods j m fits all))

-- ---- amounts

pub amount_found : (b : Parts) (o : Owner) (at : Place) (op : ℕ) (s : Settings) → settings_of b o at ≡ Some s
    → amount_of b o at op ≡ map.get s.gens op
amount_found b (Preset p) at op s e =
    amount_of_settings b.presets p (zone_place at) op ∙ ap (option_and_then (λ (s : Settings). map.get s.gens op)) e
amount_found b (Inst i) at op s e =
    amount_of_settings b.instruments i (zone_place at) op
    ∙ ap (option_and_then (λ (s : Settings). map.get s.gens op)) e

-- ---- limits

no_longer : (m n : ℕ) → m + 1 ≡ n → m ≤ n
no_longer m n e = omega (arith, e)

same_length : (m n : ℕ) → m ≡ n → m ≤ n
same_length m n e = omega (arith, e)

module _ (b : Parts) (o : Owner) (at : Place) (op : ℕ) (s : Settings) (there : settings_of b o at ≡ Some s)
    (sound : IsSound b) where
  -- one amount replaced by another
  pub within_gen_replaced : (amount : ℕ) → IsSome (map.get s.gens op) → broken_limit (gen_set b o at op amount) ≡ None
  within_gen_replaced amount set =
      within_no_more b o at (λ s. with_gens (map.insert s.gens op amount) s) s there sound
      (same_length (len (map.insert s.gens op amount)) (len s.gens) (gens.len-insert_present s.gens op amount set))
      (omega arith)

  pub within_gen_cleared : IsSome (map.get s.gens op) → broken_limit (gen_cleared b o at op) ≡ None
  within_gen_cleared set =
      within_no_more b o at (λ s. with_gens (map.remove s.gens op) s) s there sound
      (no_longer (len (map.remove s.gens op)) (len s.gens) (gens.len-remove_present s.gens op set)) (omega arith)

-- ---- one more generator or modulator

some_count : (n m : ℕ) → ◌≡◌ {A = ℕ} (if n + 1 + m == 0 then 0 else 1) 1
some_count n m = grind (arith, nat_tests)

other_count : (n m : ℕ) → ◌≡◌ {A = ℕ} (if n + (m + 1) == 0 then 0 else 1) 1
other_count n m = grind (arith, nat_tests)

pub gen_more : (at : Place) (s : Settings) (op amount : ℕ) → map.get s.gens op ≡ None
    → records_of_place (zone_place at) (with_gens (map.insert s.gens op amount) s)
    ≡ record { zones = zones_at at; gens = len s.gens + 1; mods = length s.mods }
gen_more place.Global s op amount unset =
    let more = gens.len-insert_absent s.gens op amount unset in
    λ k. record {
      zones = (ap (λ n. if n + length s.mods == 0 then 0 else 1) more ∙ some_count (len s.gens) (length s.mods)) k;
      gens = more k;
      mods = length s.mods;
    }
gen_more (place.Zone z) s op amount unset =
    λ k. record { zones = 0; gens = gens.len-insert_absent s.gens op amount unset k; mods = length s.mods }

length_more : (xs : List Modulator) (j : ℕ) (m : Modulator) → length (insert xs j m) ≡ length xs + 1
length_more xs j m =
    let with = length-append (take j xs) (m ∷ drop j xs) in
    let without = length-append (take j xs) (drop j xs) in
    let whole = ap length (take-append-drop j xs) in
    omega (arith, with, without, whole)

pub mod_more : (at : Place) (s : Settings) (j : ℕ) (m : Modulator)
    → records_of_place (zone_place at) (with_mods (insert s.mods j m) s)
    ≡ record { zones = zones_at at; gens = len s.gens; mods = length s.mods + 1 }
mod_more place.Global s j m =
    let more = length_more s.mods j m in
    λ k. record {
      zones = (ap (λ n. if len s.gens + n == 0 then 0 else 1) more ∙ other_count (len s.gens) (length s.mods)) k;
      gens = len s.gens;
      mods = more k;
    }
mod_more (place.Zone z) s j m = λ k. record { zones = 0; gens = len s.gens; mods = length_more s.mods j m k }

module _ (b : Parts) (o : Owner) (at : Place) (j : ℕ) (s : Settings) (there : settings_of b o at ≡ Some s)
    (sound : IsSound b) where
  pub within_mod_removed : j < length s.mods → broken_limit (mod_removed b o at j) ≡ None
  within_mod_removed lt =
      let fewer = length-remove s.mods j lt in
      within_no_more b o at (λ s. with_mods (remove s.mods j) s) s there sound (omega arith)
      (omega (arith, fewer, lt))

  pub within_mod_set : (m : Modulator) → broken_limit (mod_set b o at j m) ≡ None
  within_mod_set m =
      within_no_more b o at (λ s. with_mods (slice_set s.mods j m) s) s there sound (omega arith)
      (same_length (length (slice_set s.mods j m)) (length s.mods) (length-slice_set s.mods j m))

-- ---- the records of one more generator or modulator

bags_there : (at : Place) (s : Settings) → (records_of_place (zone_place at) s).zones ≤ zones_at at
bags_there place.Global s = grind (arith, nat_tests)
bags_there (place.Zone k) s = omega arith

pub bags_within : (b : Parts) (o : Owner) (at : Place) → IsSome (settings_of b o at)
    → (place_records b o at).zones ≤ zones_at at
bags_within b o at there =
    let (s, e) = found_there (settings_of b o at) there in
    subst (λ (r : Records). r.zones ≤ zones_at at) (sym (records_found b o at s e)) (bags_there at s)

pub few_bags : (at : Place) (had : Records) → zones_at at - had.zones < 2 ^ 64
few_bags place.Global had = omega arith
few_bags (place.Zone k) had = omega arith

minus_plus : (n m : ℕ) → n ≤ m → n + (m - n) ≡ m
minus_plus n m h = omega (arith, h)

module _ (b : Parts) (o : Owner) (at : Place) (s : Settings) (there : settings_of b o at ≡ Some s) where
  abbrev had : Records
  had = records_of_place (zone_place at) s

  zones_more : had.zones + (zones_at at - (place_records b o at).zones) ≡ zones_at at
  zones_more =
      ap (λ (r : Records). had.zones + (zones_at at - r.zones)) (records_found b o at s there)
      ∙ minus_plus had.zones (zones_at at) (bags_there at s)

  gens_had : (at : Place) → (records_of_place (zone_place at) s).gens ≡ len s.gens
  gens_had place.Global = refl
  gens_had (place.Zone k) = refl

  mods_had : (at : Place) → (records_of_place (zone_place at) s).mods ≡ length s.mods
  mods_had place.Global = refl
  mods_had (place.Zone k) = refl

  pub totals_gen_more : (op amount : ℕ) → map.get s.gens op ≡ None
      → totals_of (gen_set b o at op amount)
      ≡ with_records (level_of o) (totals_of b)
      (record { zones = zones_at at - (place_records b o at).zones; gens = 1; mods = 0 })
  totals_gen_more op amount unset =
      place_grown b o at (λ s. with_gens (map.insert s.gens op amount) s) s there
      (record { zones = zones_at at - (place_records b o at).zones; gens = 1; mods = 0 })
      (gen_more at s op amount unset
      ∙ (λ k. record {
        zones = sym zones_more k;
        gens = sym (gens_had at) k + 1;
        mods = (sym (mods_had at) ∙ plus_none) k;
      }))
    where
      plus_none : had.mods ≡ had.mods + 0
      plus_none = omega arith

  pub totals_mod_more : (j : ℕ) (m : Modulator) → totals_of (mod_added b o at j m)
      ≡ with_records (level_of o) (totals_of b)
      (record { zones = zones_at at - (place_records b o at).zones; gens = 0; mods = 1 })
  totals_mod_more j m =
      place_grown b o at (λ s. with_mods (insert s.mods j m) s) s there
      (record { zones = zones_at at - (place_records b o at).zones; gens = 0; mods = 1 })
      (mod_more at s j m
      ∙ (λ k. record {
        zones = sym zones_more k;
        gens = (sym (gens_had at) ∙ plus_none) k;
        mods = sym (mods_had at) k + 1;
      }))
    where
      plus_none : had.gens ≡ had.gens + 0
      plus_none = omega arith
