-- Undo restores the bank, for the forms that edit generators and modulators.
use Rattle.std.proofs.Common.{◌≡◌, ◌<◌, ◌^◌, ℕ, List, Option, Some, None, refl, sym, subst, ◌∙◌, ap, ◌≤◌, length}
use Rattle.std.proofs.Common.{insert, remove, arith}
use Rattle.std.specs.FinMap as map
use Rattle.generators.specs.Gens.{FitsEntry}
use Rattle.generators.proofs.EntryLaws.{set_is_entry}
use Rattle.bank_parts.specs.declared.parts.Head.{Head}
use Rattle.bank_parts.specs.declared.parts.ZoneOwner.{ZoneOwner}
use Rattle.bank_parts.specs.declared.parts.Parts.{Parts}
use Rattle.bank_parts.specs.Settings.{Settings, with_gens}
use Rattle.bank_parts.specs.Valid.{IsGenerator}
use Rattle.bank_parts.specs.Sound.{IsSound}
use Rattle.bank_parts.proofs.UndoneLaws.{gen_set_back, gen_set_cleared, gen_cleared_undone, gen_set_read}
use Rattle.bank_parts.proofs.UndoneLaws.{gen_cleared_read, mod_added_undone, mod_removed_undone, mod_set_back}
use Rattle.bank_changes.specs.declared.members.Owner.{Owner}
use Rattle.bank_changes.specs.declared.members.Owner.TheVariants as owner
use Rattle.bank_changes.specs.declared.members.Place.{Place}
use Rattle.bank_changes.specs.Members.{zone_place, level_of, amount_of, settings_of, mods_of, mod_at}
use Rattle.bank_changes.specs.Settings.{owner_place_changed, gen_set, gen_cleared, mod_added, mod_removed, mod_set}
use Rattle.bank_changes.proofs.Changes.{all_found}
use Rattle.bank_changes.proofs.PlaceLaws.{place_there, gens_of_sound, settings_fit}
use Rattle.bank_changes.proofs.SettingLaws.{amount_found}
use Rattle.edit_forms.specs.declared.settings.SettingStep.TheVariants.{SetGen, ClearGen, AddMod, RemoveMod, SetMod}
use Rattle.edit_forms.specs.declared.step.Step.TheVariants as steps
use Rattle.edit_refusals.proofs.Accepted.{accepted}
use Rattle.edit_refusals.proofs.PlaceLaws.{some_settings, owner_stays_there, place_stays_there, mods_found}
use Rattle.edit_refusals.proofs.SettingLaws.{AllowsThere, settings_allowed}
use Rattle.edit_refusals.proofs.SettingLaws.{SetGenAllowed, set_gen_allowed, tests_set_gen}
use Rattle.edit_refusals.proofs.SettingLaws.{sound_set_gen, clear_gen_allowed}
use Rattle.edit_refusals.proofs.SettingLaws.{tests_clear_gen, sound_clear_gen, mods_changed}
use Rattle.edit_refusals.proofs.SettingLaws.{still_no_link, none_inserted, none_left, none_exchanged, plain_found}
use Rattle.edit_refusals.proofs.SettingLaws.{add_mod_allowed, sound_add_mod}
use Rattle.edit_refusals.proofs.SettingLaws.{tests_add_mod, remove_mod_allowed, sound_remove_mod}
use Rattle.edit_refusals.proofs.SettingLaws.{tests_remove_mod, mod_changes, sound_set_mod, tests_set_mod}
use Rattle.bank_edits.proofs.UndoneBy.{IsAccepted, IsUndone, undone_by}
use Rattle.std.proofs.lemmas.List.Edits.{length-insert, length-remove}
use Rattle.std.specs.Prelude.{slice_get, slice_set, IsSomeAnd}
use Rattle.std.specs.Option.{option_and_then}
use Rattle.base_numbered_lists.proofs.Lists.{slice_get-found, slice_get-insert, slice_get-slice_set, length-slice_set}
use Rattle.modulators.specs.declared.modulator.Modulator.{Modulator}
use Rattle.modulators.specs.Modulators.{FitsModulator}
use Rattle.edit_forms.specs.declared.settings.SettingStep.{SettingStep}
use Rattle.edit_forms.specs.Steps.{inverse}

-- ---- the inverse step, built from what the bank returns

module _ (b : Parts) (o : Owner) (at : Place) (j : ℕ) where
  pub inverse_of_remove_mod : (m : Modulator) → mod_at b o at j ≡ Some m
      → steps.Setting o at (AddMod j m) ≡ inverse b (steps.Setting o at (RemoveMod j))
  inverse_of_remove_mod m e = rw e refl

  pub inverse_of_set_mod : (m was : Modulator) → mod_at b o at j ≡ Some was
      → steps.Setting o at (SetMod j was) ≡ inverse b (steps.Setting o at (SetMod j m))
  inverse_of_set_mod m was e = rw e refl

-- ---- an amount of a sound bank

module _ (b : Parts) (o : Owner) (at : Place) (op was : ℕ) (sound : IsSound b) (allows : AllowsThere b o at op)
    (set : amount_of b o at op ≡ Some was) where
  pub is_generator : IsGenerator (level_of o) (op, was)
  is_generator =
      let (s, e) = settings_allowed b o at op allows in
      let (j, at_j) = set_is_entry s.gens op was (sym (amount_found b o at op s e) ∙ set) in
      all_found (IsGenerator (level_of o)) _ j (op, was) at_j (gens_of_sound b o at s sound e)

  pub amount_fits : was < 2 ^ 16
  amount_fits =
      let (s, e) = settings_allowed b o at op allows in
      let (j, at_j) = set_is_entry s.gens op was (sym (amount_found b o at op s e) ∙ set) in
      (all_found FitsEntry _ j (op, was) at_j (settings_fit b o at s sound e).gens).1

-- ---- the place after a change

still_allows : (b : Parts) (o : Owner) (at : Place) (op : ℕ) (f : Settings → Settings) → AllowsThere b o at op
    → AllowsThere (owner_place_changed b o at f) o at op
still_allows b o at op f h = record {
  owner = owner_stays_there b o at f h.owner;
  zone = place_stays_there b o at f h.zone;
  operator = h.operator;
}

read_set : (b : Parts) (o : Owner) (at : Place) (op amount : ℕ) → AllowsThere b o at op
    → amount_of (gen_set b o at op amount) o at op ≡ Some amount
read_set b (owner.Preset p) at op amount h =
    let (s, e) = settings_allowed b (owner.Preset p) at op h in
    gen_set_read b.presets p (zone_place at) op amount
    (place_there b.presets p (zone_place at) (some_settings b (owner.Preset p) at s e))
read_set b (owner.Inst i) at op amount h =
    let (s, e) = settings_allowed b (owner.Inst i) at op h in
    gen_set_read b.instruments i (zone_place at) op amount
    (place_there b.instruments i (zone_place at) (some_settings b (owner.Inst i) at s e))

read_cleared : (b : Parts) (o : Owner) (at : Place) (op : ℕ) → amount_of (gen_cleared b o at op) o at op ≡ None
read_cleared b (owner.Preset p) at op = gen_cleared_read b.presets p (zone_place at) op
read_cleared b (owner.Inst i) at op = gen_cleared_read b.instruments i (zone_place at) op

-- ---- how each change is undone

restored_set : (b : Parts) (o : Owner) (at : Place) (op was amount : ℕ) → amount_of b o at op ≡ Some was
    → gen_set (gen_set b o at op amount) o at op was ≡ b
restored_set b (owner.Preset p) at op was amount e =
    ap (λ (presets : List (ZoneOwner Head)). record b { presets = presets })
    (gen_set_back b.presets p (zone_place at) op was amount e)
restored_set b (owner.Inst i) at op was amount e =
    ap (λ (instruments : List (ZoneOwner (List ℕ))). record b { instruments = instruments })
    (gen_set_back b.instruments i (zone_place at) op was amount e)

restored_new : (b : Parts) (o : Owner) (at : Place) (op amount : ℕ) → AllowsThere b o at op
    → amount_of b o at op ≡ None → gen_cleared (gen_set b o at op amount) o at op ≡ b
restored_new b (owner.Preset p) at op amount h none =
    let (s, e) = settings_allowed b (owner.Preset p) at op h in
    ap (λ (presets : List (ZoneOwner Head)). record b { presets = presets })
    (gen_set_cleared b.presets p (zone_place at) op amount
    (place_there b.presets p (zone_place at) (some_settings b (owner.Preset p) at s e)) none)
restored_new b (owner.Inst i) at op amount h none =
    let (s, e) = settings_allowed b (owner.Inst i) at op h in
    ap (λ (instruments : List (ZoneOwner (List ℕ))). record b { instruments = instruments })
    (gen_set_cleared b.instruments i (zone_place at) op amount
    (place_there b.instruments i (zone_place at) (some_settings b (owner.Inst i) at s e)) none)

restored_cleared : (b : Parts) (o : Owner) (at : Place) (op was : ℕ) → amount_of b o at op ≡ Some was
    → gen_set (gen_cleared b o at op) o at op was ≡ b
restored_cleared b (owner.Preset p) at op was e =
    ap (λ (presets : List (ZoneOwner Head)). record b { presets = presets })
    (gen_cleared_undone b.presets p (zone_place at) op was e)
restored_cleared b (owner.Inst i) at op was e =
    ap (λ (instruments : List (ZoneOwner (List ℕ))). record b { instruments = instruments })
    (gen_cleared_undone b.instruments i (zone_place at) op was e)

-- ---- set-gen

pub undone_set_gen : (b : Parts) (o : Owner) (at : Place) (op amount : ℕ) → IsSound b
    → IsAccepted b (steps.Setting o at (SetGen op amount)) → IsUndone b (steps.Setting o at (SetGen op amount))
undone_set_gen b o at op amount s t = by (amount_of b o at op) refl
  where
    allowed : SetGenAllowed b o at op amount
    allowed = set_gen_allowed b o at op amount (accepted b (steps.Setting o at (SetGen op amount)) t.accepted).tests

    still : AllowsThere (gen_set b o at op amount) o at op
    still = still_allows b o at op (λ s. with_gens (map.insert s.gens op amount) s) allowed.allows

    by : (found : Option ℕ) → amount_of b o at op ≡ found → IsUndone b (steps.Setting o at (SetGen op amount))
    by (Some was) e =
        let new = read_set b o at op amount allowed.allows in
        undone_by b (steps.Setting o at (SetGen op amount)) (steps.Setting o at (SetGen op was)) s (record {
          is = rw e refl;
          sound = sound_set_gen b o at op amount s t.fits.2.0 t.fits.2.1 t.accepted;
          fits = (t.fits.0, t.fits.1, (t.fits.2.0, amount_fits b o at op was s allowed.allows e));
          tests =
              tests_set_gen (gen_set b o at op amount) o at op was
              (record { allows = still; is = is_generator b o at op was s allowed.allows e });
          restored = restored_set b o at op was amount e;
          redone = rw new refl;
        })
    by None e =
        let new = read_set b o at op amount allowed.allows in
        undone_by b (steps.Setting o at (SetGen op amount)) (steps.Setting o at (ClearGen op)) s (record {
          is = rw e refl;
          sound = sound_set_gen b o at op amount s t.fits.2.0 t.fits.2.1 t.accepted;
          fits = (t.fits.0, t.fits.1, t.fits.2.0);
          tests =
              tests_clear_gen (gen_set b o at op amount) o at op
              (record { allows = still; was = amount; set = new });
          restored = restored_new b o at op amount allowed.allows e;
          redone = rw new refl;
        })

-- ---- clear-gen

pub undone_clear_gen : (b : Parts) (o : Owner) (at : Place) (op : ℕ) → IsSound b
    → IsAccepted b (steps.Setting o at (ClearGen op)) → IsUndone b (steps.Setting o at (ClearGen op))
undone_clear_gen b o at op s t =
    let g = clear_gen_allowed b o at op (accepted b (steps.Setting o at (ClearGen op)) t.accepted).tests in
    let now : Parts = gen_cleared b o at op in
    let set = g.set in
    let none = read_cleared b o at op in
    undone_by b (steps.Setting o at (ClearGen op)) (steps.Setting o at (SetGen op g.was)) s (record {
      is = rw set refl;
      sound = sound_clear_gen b o at op s t.accepted;
      fits = (t.fits.0, t.fits.1, (t.fits.2, amount_fits b o at op g.was s g.allows g.set));
      tests = tests_set_gen now o at op g.was (record {
        allows =
            still_allows b o at op (λ s. with_gens (map.remove s.gens op) s) g.allows;
        is = is_generator b o at op g.was s g.allows g.set;
      });
      restored = restored_cleared b o at op g.was g.set;
      redone = rw none refl;
    })

-- ---- the modulators of a place

module _ (b : Parts) (o : Owner) (at : Place) (s : Settings) (e : settings_of b o at ≡ Some s) where
  mods_and : (P : List Modulator → Type 0) → P s.mods → IsSomeAnd (mods_of b o at) P
  mods_and P h = subst (λ (mods : Option (List Modulator)). IsSomeAnd mods P) (sym (mods_found b o at s e)) h

  mod_found : (j : ℕ) (m : Modulator) → slice_get s.mods j ≡ Some m → mod_at b o at j ≡ Some m
  mod_found j m h = ap (option_and_then (λ (mods : List Modulator). slice_get mods j)) (mods_found b o at s e) ∙ h

-- ---- how each change is undone

restored_added : (b : Parts) (o : Owner) (at : Place) (j : ℕ) (m : Modulator)
    → IsSomeAnd (mods_of b o at) (λ mods. j ≤ length mods) → mod_removed (mod_added b o at j m) o at j ≡ b
restored_added b (owner.Preset p) at j m h =
    ap (λ (presets : List (ZoneOwner Head)). record b { presets = presets })
    (mod_added_undone b.presets p (zone_place at) j m h)
restored_added b (owner.Inst i) at j m h =
    ap (λ (instruments : List (ZoneOwner (List ℕ))). record b { instruments = instruments })
    (mod_added_undone b.instruments i (zone_place at) j m h)

restored_removed : (b : Parts) (o : Owner) (at : Place) (j : ℕ) (m : Modulator) → mod_at b o at j ≡ Some m
    → mod_added (mod_removed b o at j) o at j m ≡ b
restored_removed b (owner.Preset p) at j m e =
    ap (λ (presets : List (ZoneOwner Head)). record b { presets = presets })
    (mod_removed_undone b.presets p (zone_place at) j m e)
restored_removed b (owner.Inst i) at j m e =
    ap (λ (instruments : List (ZoneOwner (List ℕ))). record b { instruments = instruments })
    (mod_removed_undone b.instruments i (zone_place at) j m e)

restored_set_mod : (b : Parts) (o : Owner) (at : Place) (j : ℕ) (was m : Modulator) → mod_at b o at j ≡ Some was
    → mod_set (mod_set b o at j m) o at j was ≡ b
restored_set_mod b (owner.Preset p) at j was m e =
    ap (λ (presets : List (ZoneOwner Head)). record b { presets = presets })
    (mod_set_back b.presets p (zone_place at) j was m e)
restored_set_mod b (owner.Inst i) at j was m e =
    ap (λ (instruments : List (ZoneOwner (List ℕ))). record b { instruments = instruments })
    (mod_set_back b.instruments i (zone_place at) j was m e)

-- ---- add-mod

pub undone_add_mod : (b : Parts) (o : Owner) (at : Place) (j : ℕ) (m : Modulator) → IsSound b
    → IsAccepted b (steps.Setting o at (AddMod j m)) → IsUndone b (steps.Setting o at (AddMod j m))
undone_add_mod b o at j m s t =
    let g = add_mod_allowed b o at j m (accepted b (steps.Setting o at (AddMod j m)) t.accepted).tests in
    let old : Settings = g.settings in
    let le = g.place in
    let size = length-insert old.mods j m le in
    let now : Parts = mod_added b o at j m in
    let holds =
    still_no_link b o at (λ ms. insert ms j m) old g.holds (none_inserted old.mods j m g.holds.free g.plain) in
    let there : mod_at now o at j ≡ Some m =
    mod_found now o at (mods_changed (λ ms. insert ms j m) old) holds.there j m (slice_get-insert old.mods j m le)
    in
    undone_by b (steps.Setting o at (AddMod j m)) (steps.Setting o at (RemoveMod j)) s (record {
      is = refl;
      sound = sound_add_mod b o at j m s t.fits.2.1 t.accepted;
      fits = (t.fits.0, t.fits.1, t.fits.2.0);
      tests =
          tests_remove_mod now o at j
          (record
          { settings = mods_changed (λ ms. insert ms j m) old; holds = holds; index = omega (arith, size, le) });
      restored = restored_added b o at j m (mods_and b o at old g.holds.there (λ mods. j ≤ length mods) le);
      redone = rw there refl;
    })

-- ---- remove-mod

pub undone_remove_mod : (b : Parts) (o : Owner) (at : Place) (j : ℕ) → IsSound b
    → IsAccepted b (steps.Setting o at (RemoveMod j)) → IsUndone b (steps.Setting o at (RemoveMod j))
undone_remove_mod b o at j s t =
    let c = remove_mod_allowed b o at j (accepted b (steps.Setting o at (RemoveMod j)) t.accepted).tests in
    let old : Settings = c.settings in
    let lt = c.index in
    let (m, e) = slice_get-found old.mods j lt in
    let less = length-remove old.mods j lt in
    let now : Parts = mod_removed b o at j in
    let there : mod_at b o at j ≡ Some m = mod_found b o at old c.holds.there j m e in
    let holds =
    still_no_link b o at (λ ms. remove ms j) old c.holds (none_left old.mods j c.holds.free) in
    undone_by b (steps.Setting o at (RemoveMod j)) (steps.Setting o at (AddMod j m)) s (record {
      is = rw there refl;
      sound = sound_remove_mod b o at j s t.accepted;
      fits = (
        t.fits.0,
        t.fits.1,
        (t.fits.2, all_found FitsModulator old.mods j m e (settings_fit b o at old s c.holds.there).mods),
      );
      tests = tests_add_mod now o at j m (record {
        settings = mods_changed (λ ms. remove ms j) old;
        holds = holds;
        place = omega (arith, less, lt);
        plain = plain_found old.mods j m c.holds.free e;
      });
      restored = restored_removed b o at j m there;
      redone = refl;
    })

-- ---- set-mod

pub undone_set_mod : (b : Parts) (o : Owner) (at : Place) (j : ℕ) (m : Modulator) → IsSound b
    → IsAccepted b (steps.Setting o at (SetMod j m)) → IsUndone b (steps.Setting o at (SetMod j m))
undone_set_mod b o at j m s t =
    let c = mod_changes b o at j m (accepted b (steps.Setting o at (SetMod j m)) t.accepted).tests in
    let old : Settings = c.settings in
    let lt = c.index in
    let (was, e) = slice_get-found old.mods j lt in
    let same = length-slice_set old.mods j m in
    let now : Parts = mod_set b o at j m in
    let there : mod_at b o at j ≡ Some was = mod_found b o at old c.holds.there j was e in
    let holds =
    still_no_link b o at (λ ms. slice_set ms j m) old c.holds (none_exchanged old.mods j m c.holds.free c.plain)
    in
    let new : mod_at now o at j ≡ Some m =
    mod_found now o at (mods_changed (λ ms. slice_set ms j m) old) holds.there j m
    (slice_get-slice_set old.mods j m lt) in
    undone_by b (steps.Setting o at (SetMod j m)) (steps.Setting o at (SetMod j was)) s (record {
      is = rw there refl;
      sound = sound_set_mod b o at j m s t.fits.2.1 t.accepted;
      fits = (
        t.fits.0,
        t.fits.1,
        (t.fits.2.0, all_found FitsModulator old.mods j was e (settings_fit b o at old s c.holds.there).mods),
      );
      tests = tests_set_mod now o at j was (record {
        settings = mods_changed (λ ms. slice_set ms j m) old;
        holds = holds;
        index = omega (arith, same, lt);
        plain = plain_found old.mods j was c.holds.free e;
      });
      restored = restored_set_mod b o at j was m there;
      redone = rw new refl;
    })

-- ---- all these forms

pub undone_setting : (b : Parts) (o : Owner) (at : Place) (s : SettingStep) → IsSound b
    → IsAccepted b (steps.Setting o at s) → IsUndone b (steps.Setting o at s)
undone_setting b o at (SetGen op amount) = undone_set_gen b o at op amount
undone_setting b o at (ClearGen op) = undone_clear_gen b o at op
undone_setting b o at (AddMod j m) = undone_add_mod b o at j m
undone_setting b o at (RemoveMod j) = undone_remove_mod b o at j
undone_setting b o at (SetMod j m) = undone_set_mod b o at j m
