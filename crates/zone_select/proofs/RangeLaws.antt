-- A zone with or without its own range: all other settings are the same, and so is the range on the other axis.
use Rattle.std.proofs.Common.{◌≡◌, ◌≢◌, ℕ, ◌<◌, true, false, cond, nat_le, ◌&&◌, Some, None, unwrap_or, refl, sym}
use Rattle.std.proofs.Common.{ap, ◌∙◌, arith}
use Rattle.std.specs.FinMap.{get, insert, remove}
use Rattle.std.specs.Option.{option_or}
use Rattle.std.proofs.lemmas.Bool.Decides.{nat_tests}
use Rattle.generators.specs.Gens.{Gens}
use Rattle.generators.specs.Ranges.{is_range_operator}
use Rattle.generators.proofs.MapLaws.{get-insert_any, get-remove_any}
use Rattle.generators.proofs.Order.{untied}
use Rattle.bank_parts.specs.declared.parts.GlobalZone.{GlobalZone}
use Rattle.bank_parts.specs.declared.parts.Zone.{Zone}
use Rattle.bank_zone_ranges.specs.declared.axes.Axis.{Axis}
use Rattle.bank_zone_ranges.specs.declared.axes.Axis.TheVariants.{Key, Vel}
use Rattle.bank_zone_ranges.specs.Ranges.{range_operator, range_from, inherited_range, range_of, with_range, without_range}
use Rattle.bank_zone_ranges.proofs.SplitLaws.{low_of_range, high_of_range, own_with, own_without}
use Rattle.zone_select.specs.Ranges.{within}
use Rattle.zone_select.specs.ZoneSettings.{setting, ZoneSettings, zone_settings}

-- ---- the map

get-insert_other : (m : Gens) (op w q : ℕ) → q ≢ op → get (insert m op w) q ≡ get m q
get-insert_other m op w q n = get-insert_any m op w q ∙ ap (λ b. cond b (Some w) (get m q)) (untied q op n)

get-remove_other : (m : Gens) (op q : ℕ) → q ≢ op → get (remove m op) q ≡ get m q
get-remove_other m op q n = get-remove_any m op q ∙ ap (λ b. cond b None (get m q)) (untied q op n)

-- ---- the settings of a zone

no_range : (axis : Axis) (op : ℕ) → is_range_operator op ≡ false → op ≢ range_operator axis
no_range Key op e = grind (arith, nat_tests)
no_range Vel op e = grind (arith, nat_tests)

-- generators that agree except for the range
setting_at : (global : GlobalZone) (z : Zone) (gens : Gens) (axis : Axis)
    → ((op : ℕ) → op ≢ range_operator axis → get gens op ≡ get z.gens op) → (op : ℕ)
    → setting global z op ≡ setting global (record z { gens = gens }) op
unfolding setting
setting_at global z gens axis h op =
    elim (is_range_operator op) as
    (λ t.
    is_range_operator op ≡ t
    → cond t None (option_or (get z.gens op) (get global.gens op))
    ≡ cond t None (option_or (get gens op) (get global.gens op))) [
      | true ↦ λ e. refl
      | false ↦ λ e. ap (λ o. option_or o (get global.gens op)) (sym (h op (no_range axis op e)))
    ] refl

pub zone_settings-with : (global : GlobalZone) (z : Zone) (axis : Axis) (w : ℕ)
    → zone_settings global z ≡ zone_settings global (with_range axis w z)
unfolding zone_settings
zone_settings-with global z axis w =
    let same =
    setting_at global z (insert z.gens (range_operator axis) w) axis
    (λ op n. get-insert_other z.gens (range_operator axis) w op n) in
    λ i. let r : ZoneSettings = record { settings = λ op. same op i; mods = z.mods; inherited = global.mods } in r

pub zone_settings-without : (global : GlobalZone) (z : Zone) (axis : Axis)
    → zone_settings global z ≡ zone_settings global (without_range axis z)
unfolding zone_settings
zone_settings-without global z axis =
    let same =
    setting_at global z (remove z.gens (range_operator axis)) axis
    (λ op n. get-remove_other z.gens (range_operator axis) op n) in
    λ i. let r : ZoneSettings = record { settings = λ op. same op i; mods = z.mods; inherited = global.mods } in r

-- ---- ranges

pub range-with : (global : GlobalZone) (z : Zone) (axis : Axis) (w : ℕ) → range_of axis global (with_range axis w z) ≡ w
range-with global z axis w = ap (λ o. unwrap_or o (inherited_range axis global)) (own_with axis w z)

pub range-without : (global : GlobalZone) (z : Zone) (axis : Axis)
    → range_of axis global (without_range axis z) ≡ inherited_range axis global
range-without global z axis = ap (λ o. unwrap_or o (inherited_range axis global)) (own_without axis z)

pub other-with : (global : GlobalZone) (z : Zone) (axis other : Axis) (w : ℕ)
    → range_operator other ≢ range_operator axis → range_of other global (with_range axis w z) ≡ range_of other global z
other-with global z axis other w n =
    ap (λ o. unwrap_or o (inherited_range other global))
    (get-insert_other z.gens (range_operator axis) w (range_operator other) n)

pub other-without : (global : GlobalZone) (z : Zone) (axis other : Axis) → range_operator other ≢ range_operator axis
    → range_of other global (without_range axis z) ≡ range_of other global z
other-without global z axis other n =
    ap (λ o. unwrap_or o (inherited_range other global))
    (get-remove_other z.gens (range_operator axis) (range_operator other) n)

pub within_ends : (low high x : ℕ) → low < 256 → within (range_from low high) x ≡ (nat_le low x && nat_le x high)
within_ends low high x h = λ i. nat_le (low_of_range low high h i) x && nat_le x (high_of_range low high h i)
