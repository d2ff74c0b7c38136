-- The zones of a pair, from the queries of a bank.
use Rattle.std.proofs.Common.{◌≡◌, ℕ, Bool, true, false, cond, List, [], Option, Some, None, slice_get, unwrap_or}
use Rattle.std.proofs.Common.{refl, sym, ap, ◌∙◌}
use Rattle.std.specs.FinMap.{get}
use Rattle.std.specs.List.{find}
use Rattle.std.specs.Option.{option_map, option_and_then, option_or}
use Rattle.generators.specs.Gens.{Gens}
use Rattle.generators.specs.Ranges.{is_range_operator}
use Rattle.script_notes.specs.Notes.{Numbers}
use Rattle.bank_parts.specs.declared.parts.GlobalZone.{GlobalZone}
use Rattle.bank_parts.specs.declared.parts.Head.{Head}
use Rattle.bank_parts.specs.declared.parts.Zone.{Zone}
use Rattle.bank_parts.specs.declared.parts.ZoneOwner.{ZoneOwner}
use Rattle.bank_parts.specs.declared.parts.Parts.{Parts}
use Rattle.bank_changes.specs.declared.members.Owner.TheVariants as owner
use Rattle.zone_select.specs.Ranges.{holds}
use Rattle.zone_select.specs.ZoneSettings.{ZoneSettings, zone_settings, setting}
use Rattle.zone_select.specs.Select.{has_preset_numbers}
use Rattle.zone_select.specs.Pairs.{SelectedPair, pair_of_instrument, pair_of_preset, selected_pair}
use Rattle.zone_select.specs.At.{zone_settings_at, target_held, selected_pair_at}

-- the settings of a zone, if it exists
abbrev settings_with : GlobalZone → Option Zone → ZoneSettings
settings_with global o = record {
  settings =
      λ op.
      cond (is_range_operator op) None
      (option_or (option_and_then (λ (gens : Gens). get gens op) (option_map (λ (z : Zone). z.gens) o))
      (get global.gens op));
  mods = unwrap_or (option_map (λ (z : Zone). z.mods) o) [];
  inherited = global.mods;
}

-- the settings of zone k of an owner, if it exists
abbrev settings_by : {H : Type 0} → ℕ → Option (ZoneOwner H) → ZoneSettings
settings_by k o = record {
  settings =
      λ op.
      cond (is_range_operator op) None
      (option_or
      (option_and_then (λ (gens : Gens). get gens op)
      (option_map (λ (z : Zone). z.gens) (option_and_then (λ x. slice_get x.zones k) o)))
      (option_and_then (λ (gens : Gens). get gens op) (option_map (λ x. x.global.gens) o)));
  mods = unwrap_or (option_map (λ (z : Zone). z.mods) (option_and_then (λ x. slice_get x.zones k) o)) [];
  inherited = unwrap_or (option_map (λ x. x.global.mods) o) [];
}

settings_there : {H : Type 0} (owners : List (ZoneOwner H)) (i k : ℕ) (x : ZoneOwner H) (z : Zone)
    → slice_get owners i ≡ Some x → slice_get x.zones k ≡ Some z → settings_by k (slice_get owners i) ≡ zone_settings x.global z
unfolding zone_settings setting
settings_there owners i k x z e f = ap (settings_by k) e ∙ ap (settings_with x.global) f

-- the zones of a pair within an instrument
abbrev selected_inside : Parts → ZoneSettings → ℕ → ℕ → ℕ → SelectedPair
selected_inside b u i l s = record { instrument_zone = zone_settings_at b (owner.Inst i) l; preset_zone = u; sample = s }

inside : (b : Parts) (n : Numbers) (u : ZoneSettings) (i l : ℕ) (o : Option (ZoneOwner (List ℕ)))
    → slice_get b.instruments i ≡ o
    → option_and_then (pair_of_instrument n u l) o
    ≡ option_map (selected_inside b u i l) (target_held b n (owner.Inst i) l)
inside b n u i l None e = rw e refl
inside b n u i l (Some x) e = zone (slice_get x.zones l) refl
  where
    zone : (z : Option Zone) → slice_get x.zones l ≡ z
        → option_and_then (pair_of_instrument n u l) (Some x)
        ≡ option_map (selected_inside b u i l) (target_held b n (owner.Inst i) l)
    zone None f = rw (e, f) refl
    zone (Some z) f = held (holds n x.global z) refl
      where
        held : (t : Bool) → holds n x.global z ≡ t
            → option_and_then (pair_of_instrument n u l) (Some x)
            ≡ option_map (selected_inside b u i l) (target_held b n (owner.Inst i) l)
        held true h =
            rw (e, f, h)
            (ap
            (λ (t : ZoneSettings). let r : SelectedPair =
            record { instrument_zone = t; preset_zone = u; sample = z.target } in Some r)
            (sym (settings_there b.instruments i l x z e f)))
        held false h = rw (e, f, h) refl

-- the zones of a pair whose preset's zone targets an instrument
abbrev through : Parts → Numbers → ℕ → ℕ × ℕ → ℕ → Option SelectedPair
through b n p q i =
    option_and_then (pair_of_instrument n (zone_settings_at b (owner.Preset p) q.0) q.1) (slice_get b.instruments i)

outside : (b : Parts) (n : Numbers) (p : ℕ) (q : ℕ × ℕ) (o : Option (ZoneOwner Head)) → slice_get b.presets p ≡ o
    → option_and_then (pair_of_preset b n q) o ≡ option_and_then (through b n p q) (target_held b n (owner.Preset p) q.0)
outside b n p q None e = rw e refl
outside b n p q (Some x) e = zone (slice_get x.zones q.0) refl
  where
    zone : (z : Option Zone) → slice_get x.zones q.0 ≡ z
        → option_and_then (pair_of_preset b n q) (Some x)
        ≡ option_and_then (through b n p q) (target_held b n (owner.Preset p) q.0)
    zone None f = rw (e, f) refl
    zone (Some z) f = held (holds n x.global z) refl
      where
        held : (t : Bool) → holds n x.global z ≡ t
            → option_and_then (pair_of_preset b n q) (Some x)
            ≡ option_and_then (through b n p q) (target_held b n (owner.Preset p) q.0)
        held true h =
            rw (e, f, h)
            (ap
            (λ (t : ZoneSettings).
            option_and_then (pair_of_instrument n t q.1) (slice_get b.instruments z.target))
            (sym (settings_there b.presets p q.0 x z e f)))
        held false h = rw (e, f, h) refl

-- the zones of a pair by all four numbers
abbrev numbered : Parts → ℕ → ℕ × ℕ → ℕ → ℕ → SelectedPair
numbered b p q i s =
    selected_pair_at b
    (record
    { zones = record { preset = p; preset_zone = q.0; instrument = i; instrument_zone = q.1 }; sample = s })

by_preset : (b : Parts) (n : Numbers) (p : ℕ) (q : ℕ × ℕ) → find (has_preset_numbers n) b.presets ≡ slice_get b.presets p
    → selected_pair b n q ≡ option_and_then (through b n p q) (target_held b n (owner.Preset p) q.0)
unfolding selected_pair
by_preset b n p q e = ap (option_and_then (pair_of_preset b n q)) e ∙ outside b n p q (slice_get b.presets p) refl

pub no_preset : (b : Parts) (n : Numbers) (q : ℕ × ℕ) → find (has_preset_numbers n) b.presets ≡ None → selected_pair b n q ≡ None
unfolding selected_pair
no_preset b n q e = rw e refl

pub no_zone : (b : Parts) (n : Numbers) (p : ℕ) (q : ℕ × ℕ) → find (has_preset_numbers n) b.presets ≡ slice_get b.presets p
    → target_held b n (owner.Preset p) q.0 ≡ None → selected_pair b n q ≡ None
no_zone b n p q e f = by_preset b n p q e ∙ ap (option_and_then (through b n p q)) f

pub by_both : (b : Parts) (n : Numbers) (p i : ℕ) (q : ℕ × ℕ) (o : Option ℕ)
    → find (has_preset_numbers n) b.presets ≡ slice_get b.presets p → target_held b n (owner.Preset p) q.0 ≡ Some i
    → target_held b n (owner.Inst i) q.1 ≡ o → selected_pair b n q ≡ option_map (numbered b p q i) o
by_both b n p i q o e f g =
    by_preset b n p q e ∙ ap (option_and_then (through b n p q)) f
    ∙ inside b n (zone_settings_at b (owner.Preset p) q.0) i q.1 (slice_get b.instruments i) refl
    ∙ ap (option_map (numbered b p q i)) g
