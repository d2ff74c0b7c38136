-- The settings of a zone that a voice uses.
use Rattle.std.specs.Prelude.{ℕ, List, Option, Some, None, cond, fold, replicate, slice_get, slice_set, unwrap_or}
use Rattle.std.specs.Option.{option_or}
use Rattle.std.specs.FinMap.{get}
use Rattle.generators.specs.Ranges.{is_range_operator}
use Rattle.modulators.specs.declared.modulator.Modulator.{Modulator}
use Rattle.bank_parts.specs.declared.parts.GlobalZone.{GlobalZone}
use Rattle.bank_parts.specs.declared.parts.Zone.{Zone}
use Rattle.zone_select.specs.declared.zone_amounts.ZoneAmounts.{ZoneAmounts}

-- the zone's amount, else its global zone's; none for a range
unfoldable pub setting : GlobalZone → Zone → ℕ → Option ℕ
setting global z op = cond (is_range_operator op) None (option_or (get z.gens op) (get global.gens op))

-- the amounts of a zone, its own modulators, and those of its global zone
pub record ZoneSettings : Type 0 where
  pub settings : ℕ → Option ℕ
  pub mods : List Modulator
  pub inherited : List Modulator

unfoldable pub zone_settings : GlobalZone → Zone → ZoneSettings
zone_settings global z = record { settings = setting global z; mods = z.mods; inherited = global.mods }

-- ---- by the generators of a zone, one after another

-- no amount of an operator; a valid bank has operators below 61
abbrev pub no_amounts : List (Option ℕ)
no_amounts = replicate 61 None

-- amounts by operator after the generators are set
abbrev pub with_amounts : List (Option ℕ) → List (ℕ × ℕ) → List (Option ℕ)
with_amounts amounts gens = fold (λ xs (e : ℕ × ℕ). slice_set xs e.0 (Some e.1)) amounts gens

-- the settings that were collected
unfoldable pub settings_of : ZoneAmounts → ZoneSettings
settings_of z = record {
  settings = λ op. cond (is_range_operator op) None (unwrap_or (slice_get z.amounts op) None);
  mods = z.mods.now;
  inherited = z.inherited.now;
}
