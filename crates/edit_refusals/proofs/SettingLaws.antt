-- The forms that edit generators and modulators: when each is accepted.
use Rattle.std.proofs.Common.{◌≡◌, ◌<◌, ◌≤◌, ◌%◌, ◌/◌, ◌&&◌, ◌^◌, not, ℕ, nat_le, Bool, true, false, Option, Some}
use Rattle.std.proofs.Common.{None, refl, sym, ◌∙◌, arith, List, length, insert, remove}
use Rattle.std.specs.Option.{is_some}
use Rattle.std.proofs.lemmas.Bool.Decides.{nat_tests}
use Rattle.generators.specs.Levels.{is_allowed}
use Rattle.generators.specs.Ranges.{is_range_operator}
use Rattle.generators.specs.declared.level.Level.{Level}
use Rattle.bank_parts.specs.declared.parts.Parts.{Parts}
use Rattle.bank_parts.specs.Contents.{is_bad_range}
use Rattle.bank_parts.specs.Settings.{Settings, with_mods}
use Rattle.bank_parts.specs.Valid.{IsGenerator}
use Rattle.bank_parts.specs.Sound.{IsSound}
use Rattle.bank_validity.specs.Limits.{broken_limit}
use Rattle.bank_changes.specs.declared.members.Owner.{Owner}
use Rattle.bank_changes.specs.declared.members.Place.{Place}
use Rattle.bank_changes.specs.Members.{settings_of, level_of, amount_of}
use Rattle.bank_changes.specs.Settings.{gen_set, gen_cleared, owner_place_changed, mod_added, mod_removed, mod_set}
use Rattle.bank_changes.proofs.SettingLaws.{sound_gen_set, sound_gen_cleared, within_gen_cleared, amount_found}
use Rattle.bank_changes.proofs.SettingLaws.{sound_mod_added, sound_mod_removed, sound_mod_set, within_mod_removed}
use Rattle.bank_changes.proofs.SettingLaws.{within_mod_set}
use Rattle.edit_forms.specs.declared.settings.SettingStep.TheVariants.{SetGen, ClearGen, AddMod, RemoveMod, SetMod}
use Rattle.edit_forms.specs.declared.step.Step.TheVariants as steps
use Rattle.edit_forms.specs.Causes.{no_such_owner, no_such_zone_at, mods_there, linked_place, linked_modulator}
use Rattle.edit_forms.specs.Steps.{refusal, causes}
use Rattle.edit_refusals.proofs.Accepted.{NoneApplies, accepted, below, not_below, up_to, not_above}
use Rattle.edit_refusals.proofs.PlaceLaws.{place_found, mods_there_are, owner_stays_there, place_stays_there}
use Rattle.edit_refusals.proofs.PlaceLaws.{settings_after}
use Rattle.std.specs.Prelude.{slice_get, slice_set}
use Rattle.std.specs.List.{AllByRecursion, list_any}
use Rattle.modulators.specs.declared.modulator.Modulator.{Modulator}
use Rattle.modulators.specs.Modulators.{is_link, FitsModulator}
use Rattle.bank_changes.proofs.Changes.{all_set, all_found}
use Rattle.bank_changes.proofs.Everywhere.{all_insert, all_remove, or_left, or_right, or_none, none_passes, passes_none}
use Rattle.edit_forms.specs.declared.settings.SettingStep.{SettingStep}
use Rattle.edit_forms.specs.Settings as settings
use Rattle.edit_refusals.proofs.Rises.{rises}

-- ---- one generator

held : (b : Bool) → not b ≡ false → b ≡ true
held true h = refl
held false h = cc

not_held : (b : Bool) → b ≡ true → not b ≡ false
not_held true h = refl
not_held false h = cc

ends_are : (asks : Bool) (low high : ℕ) → (asks && not (nat_le low high && nat_le high 127)) ≡ false → asks ≡ true
    → (low ≤ high) × (high ≤ 127)
ends_are true low high h k = (grind (arith, nat_tests), grind (arith, nat_tests))
ends_are false low high h k = cc

are_ends : (asks : Bool) (low high : ℕ) → (asks ≡ true → (low ≤ high) × (high ≤ 127))
    → (asks && not (nat_le low high && nat_le high 127)) ≡ false
are_ends true low high h = let ends = h refl in let lows = ends.0 in let highs = ends.1 in both low high lows highs
  where
    both : (low high : ℕ) → low ≤ high → high ≤ 127 → not (nat_le low high && nat_le high 127) ≡ false
    both low high h k = grind (arith, nat_tests)
are_ends false low high h = refl

module _ (lvl : Level) (op amount : ℕ) where
  pub generator_from_tests : not (is_allowed lvl op) ≡ false → is_bad_range (op, amount) ≡ false
      → IsGenerator lvl (op, amount)
  generator_from_tests own good = record {
    allowed = held (is_allowed lvl op) own;
    range = λ asks. ends_are (is_range_operator op) (amount % 256) (amount / 256) good asks;
  }

  pub tests_from_generator : IsGenerator lvl (op, amount)
      → (not (is_allowed lvl op) ≡ false) × (is_bad_range (op, amount) ≡ false)
  tests_from_generator is = (
    not_held (is_allowed lvl op) is.allowed,
    are_ends (is_range_operator op) (amount % 256) (amount / 256) is.range,
  )

-- ---- an existing place, and an operator that its level allows

pub record AllowsThere (b : Parts) (o : Owner) (at : Place) (op : ℕ) : Type 0 where
  pub owner : (no_such_owner b o).applies ≡ false
  pub zone : (no_such_zone_at b o at).applies ≡ false
  pub operator : not (is_allowed (level_of o) op) ≡ false

pub settings_allowed : (b : Parts) (o : Owner) (at : Place) (op : ℕ) → AllowsThere b o at op
    → (s : Settings) × (settings_of b o at ≡ Some s)
settings_allowed b o at op h = place_found b o at h.owner h.zone

-- ---- set-gen

module _ (b : Parts) (o : Owner) (at : Place) (op amount : ℕ) where
  pub record SetGenAllowed : Type 0 where
    pub allows : AllowsThere b o at op
    pub is : IsGenerator (level_of o) (op, amount)

  pub set_gen_allowed : NoneApplies (causes b (steps.Setting o at (SetGen op amount))) → SetGenAllowed
  set_gen_allowed (owner, (zone, (own, (good, end)))) = record {
    allows = record { owner = owner; zone = zone; operator = own };
    is = generator_from_tests (level_of o) op amount own good;
  }

  pub tests_set_gen : SetGenAllowed → NoneApplies (causes b (steps.Setting o at (SetGen op amount)))
  tests_set_gen g =
      let tests = tests_from_generator (level_of o) op amount g.is in
      (g.allows.owner, (g.allows.zone, (tests.0, (tests.1, tt))))

  pub sound_set_gen : IsSound b → op < 2 ^ 16 → amount < 2 ^ 16
      → refusal b (steps.Setting o at (SetGen op amount)) ≡ None → IsSound (gen_set b o at op amount)
  sound_set_gen sound p q h =
      let a = accepted b (steps.Setting o at (SetGen op amount)) h in
      sound_gen_set b o at sound op amount (set_gen_allowed a.tests).is p q a.limits

-- ---- clear-gen

some_found : (o : Option ℕ) → not (is_some o) ≡ false → (x : ℕ) × (o ≡ Some x)
some_found None h = cc
some_found (Some x) h = (x, refl)

found_some : (o : Option ℕ) (x : ℕ) → o ≡ Some x → not (is_some o) ≡ false
found_some o x e = rw e refl

module _ (b : Parts) (o : Owner) (at : Place) (op : ℕ) where
  pub record ClearGenAllowed : Type 0 where
    pub allows : AllowsThere b o at op
    pub was : ℕ
    pub set : amount_of b o at op ≡ Some was

  pub clear_gen_allowed : NoneApplies (causes b (steps.Setting o at (ClearGen op))) → ClearGenAllowed
  clear_gen_allowed (owner, (zone, (own, (set, end)))) =
      let (was, e) = some_found (amount_of b o at op) set in
      record { allows = record { owner = owner; zone = zone; operator = own }; was = was; set = e }

  pub tests_clear_gen : ClearGenAllowed → NoneApplies (causes b (steps.Setting o at (ClearGen op)))
  tests_clear_gen g =
      (g.allows.owner, (g.allows.zone, (g.allows.operator, (found_some (amount_of b o at op) g.was g.set, tt))))

  pub sound_clear_gen : IsSound b → refusal b (steps.Setting o at (ClearGen op)) ≡ None
      → IsSound (gen_cleared b o at op)
  sound_clear_gen sound h = sound_gen_cleared b o at sound op (accepted b (steps.Setting o at (ClearGen op)) h).limits

  pub within_clear_gen : IsSound b → ClearGenAllowed → broken_limit (gen_cleared b o at op) ≡ None
  within_clear_gen sound g =
      let (s, e) = settings_allowed b o at op g.allows in
      let set = sym (amount_found b o at op s e) ∙ g.set in
      within_gen_cleared b o at op s e sound (rw set refl)

-- applies f to the modulators
abbrev pub mods_changed : (List Modulator → List Modulator) → Settings → Settings
mods_changed f s = with_mods (f s.mods) s

-- a place has these settings, and none of its modulators is linked
pub record HoldsNoLink (b : Parts) (o : Owner) (at : Place) (s : Settings) : Type 0 where
  pub owner : (no_such_owner b o).applies ≡ false
  pub zone : (no_such_zone_at b o at).applies ≡ false
  pub there : settings_of b o at ≡ Some s
  pub free : list_any is_link s.mods ≡ false

-- the place after a change that adds no link
module _ (b : Parts) (o : Owner) (at : Place) (f : List Modulator → List Modulator) (s : Settings) where
  pub still_no_link : HoldsNoLink b o at s → list_any is_link (f s.mods) ≡ false
      → HoldsNoLink (owner_place_changed b o at (mods_changed f)) o at (mods_changed f s)
  still_no_link h free = record {
    owner = owner_stays_there b o at (mods_changed f) h.owner;
    zone = place_stays_there b o at (mods_changed f) h.zone;
    there = settings_after b o at (mods_changed f) s h.there;
    free = free;
  }

-- an existing place without links, and its modulators
record FreePlace (b : Parts) (o : Owner) (at : Place) : Type 0 where
  settings : Settings
  holds : HoldsNoLink b o at settings
  are : mods_there b o at ≡ settings.mods

free_place : (b : Parts) (o : Owner) (at : Place) → (no_such_owner b o).applies ≡ false
    → (no_such_zone_at b o at).applies ≡ false → (linked_place b o at).applies ≡ false → FreePlace b o at
free_place b o at owner zone free =
    let (s, e) = place_found b o at owner zone in
    let are = mods_there_are b o at s e in
    record { settings = s; holds = record { owner = owner; zone = zone; there = e; free = rw are at free }; are = are }

-- neither the place nor the new modulator has a link
module _ (b : Parts) (o : Owner) (at : Place) (m : Modulator) where
  no_link_before : (linked_modulator b o at m).applies ≡ false → (linked_place b o at).applies ≡ false
  no_link_before link = or_left (list_any is_link (mods_there b o at)) (is_link m) link

  is_no_link : (linked_modulator b o at m).applies ≡ false → is_link m ≡ false
  is_no_link link = or_right (list_any is_link (mods_there b o at)) (is_link m) link

-- ---- links

unlinked : (ms : List Modulator) → list_any is_link ms ≡ false
    → AllByRecursion (λ (m : Modulator). is_link m ≡ false) ms
unlinked ms h = none_passes is_link ms h

pub plain_found : (ms : List Modulator) (j : ℕ) (m : Modulator) → list_any is_link ms ≡ false
    → slice_get ms j ≡ Some m → is_link m ≡ false
plain_found ms j m h e = all_found (λ (m : Modulator). is_link m ≡ false) ms j m e (unlinked ms h)

pub none_inserted : (ms : List Modulator) (j : ℕ) (m : Modulator) → list_any is_link ms ≡ false → is_link m ≡ false
    → list_any is_link (insert ms j m) ≡ false
none_inserted ms j m h plain =
    passes_none is_link (insert ms j m)
    (all_insert (λ (m : Modulator). is_link m ≡ false) ms j m plain (unlinked ms h))

pub none_left : (ms : List Modulator) (j : ℕ) → list_any is_link ms ≡ false → list_any is_link (remove ms j) ≡ false
none_left ms j h =
    passes_none is_link (remove ms j) (all_remove (λ (m : Modulator). is_link m ≡ false) ms j (unlinked ms h))

pub none_exchanged : (ms : List Modulator) (j : ℕ) (m : Modulator) → list_any is_link ms ≡ false → is_link m ≡ false
    → list_any is_link (slice_set ms j m) ≡ false
none_exchanged ms j m h plain =
    passes_none is_link (slice_set ms j m)
    (all_set (λ (m : Modulator). is_link m ≡ false) ms j m plain (unlinked ms h))

-- ---- add-mod

module _ (b : Parts) (o : Owner) (at : Place) (j : ℕ) (m : Modulator) where
  pub record AddModAllowed : Type 0 where
    pub settings : Settings
    pub holds : HoldsNoLink b o at settings
    pub place : j ≤ length settings.mods
    pub plain : is_link m ≡ false

  pub add_mod_allowed : NoneApplies (causes b (steps.Setting o at (AddMod j m))) → AddModAllowed
  add_mod_allowed (owner, (zone, (place, (link, end)))) =
      let p = free_place b o at owner zone (no_link_before b o at m link) in
      record {
        settings =
            p.settings;
        holds =
            p.holds;
        place =
            up_to (length p.settings.mods) j (rw p.are at place);
        plain = is_no_link b o at m link;
      }

  pub tests_add_mod : AddModAllowed → NoneApplies (causes b (steps.Setting o at (AddMod j m)))
  tests_add_mod g =
      let s = g.settings in
      let are = mods_there_are b o at s g.holds.there in (
        g.holds.owner,
        (
          g.holds.zone,
          (
            rw are (not_above (length s.mods) j g.place),
            (rw are (or_none (list_any is_link s.mods) (is_link m) g.holds.free g.plain), tt),
          ),
        ),
      )

  pub sound_add_mod : IsSound b → FitsModulator m → refusal b (steps.Setting o at (AddMod j m)) ≡ None
      → IsSound (mod_added b o at j m)
  sound_add_mod sound fits h =
      sound_mod_added b o at sound j m fits (accepted b (steps.Setting o at (AddMod j m)) h).limits

-- ---- remove-mod

module _ (b : Parts) (o : Owner) (at : Place) (j : ℕ) where
  pub record RemoveModAllowed : Type 0 where
    pub settings : Settings
    pub holds : HoldsNoLink b o at settings
    pub index : j < length settings.mods

  pub remove_mod_allowed : NoneApplies (causes b (steps.Setting o at (RemoveMod j))) → RemoveModAllowed
  remove_mod_allowed (owner, (zone, (index, (link, end)))) =
      let p = free_place b o at owner zone link in
      record { settings = p.settings; holds = p.holds; index = below (length p.settings.mods) j (rw p.are at index) }

  pub tests_remove_mod : RemoveModAllowed → NoneApplies (causes b (steps.Setting o at (RemoveMod j)))
  tests_remove_mod c =
      let s = c.settings in
      let are = mods_there_are b o at s c.holds.there in
      (c.holds.owner, (c.holds.zone, (rw are (not_below (length s.mods) j c.index), (rw are c.holds.free, tt))))

  pub sound_remove_mod : IsSound b → refusal b (steps.Setting o at (RemoveMod j)) ≡ None
      → IsSound (mod_removed b o at j)
  sound_remove_mod sound h = sound_mod_removed b o at sound j (accepted b (steps.Setting o at (RemoveMod j)) h).limits

  pub within_remove_mod : IsSound b → RemoveModAllowed → broken_limit (mod_removed b o at j) ≡ None
  within_remove_mod sound c = within_mod_removed b o at j c.settings c.holds.there sound c.index

-- ---- set-mod

module _ (b : Parts) (o : Owner) (at : Place) (j : ℕ) (m : Modulator) where
  pub record ModChanges : Type 0 where
    pub settings : Settings
    pub holds : HoldsNoLink b o at settings
    pub index : j < length settings.mods
    pub plain : is_link m ≡ false

  pub mod_changes : NoneApplies (causes b (steps.Setting o at (SetMod j m))) → ModChanges
  mod_changes (owner, (zone, (index, (link, end)))) =
      let p = free_place b o at owner zone (no_link_before b o at m link) in
      record {
        settings =
            p.settings;
        holds =
            p.holds;
        index =
            below (length p.settings.mods) j (rw p.are at index);
        plain = is_no_link b o at m link;
      }

  pub tests_set_mod : ModChanges → NoneApplies (causes b (steps.Setting o at (SetMod j m)))
  tests_set_mod c =
      let s = c.settings in
      let are = mods_there_are b o at s c.holds.there in (
        c.holds.owner,
        (
          c.holds.zone,
          (
            rw are (not_below (length s.mods) j c.index),
            (rw are (or_none (list_any is_link s.mods) (is_link m) c.holds.free c.plain), tt),
          ),
        ),
      )

  pub sound_set_mod : IsSound b → FitsModulator m → refusal b (steps.Setting o at (SetMod j m)) ≡ None
      → IsSound (mod_set b o at j m)
  sound_set_mod sound fits h =
      sound_mod_set b o at sound j m fits (accepted b (steps.Setting o at (SetMod j m)) h).limits

  pub within_set_mod : IsSound b → ModChanges → broken_limit (mod_set b o at j m) ≡ None
  within_set_mod sound c = within_mod_set b o at j c.settings c.holds.there sound m

-- ---- the order of their causes

pub setting_rises : (b : Parts) (o : Owner) (at : Place) (s : SettingStep) → rises 23 (settings.causes b o at s) ≡ true
setting_rises b o at (SetGen operator amount) = refl
setting_rises b o at (ClearGen operator) = refl
setting_rises b o at (AddMod index modulator) = refl
setting_rises b o at (RemoveMod index) = refl
setting_rises b o at (SetMod index modulator) = refl
