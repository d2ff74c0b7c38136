-- The settings of the zones of a pair, from the queries of a bank.
use Rattle.std.specs.Prelude.{ℕ, List, [], Option, None, cond, unwrap_or}
use Rattle.std.specs.Option.{option_or}
use Rattle.generators.specs.Ranges.{is_range_operator}
use Rattle.bank_changes.specs.declared.members.Owner.{Owner}
use Rattle.bank_changes.specs.declared.members.Owner.TheVariants as owner
use Rattle.bank_changes.specs.Members.{read_of_owner, target_of}
use Rattle.bank_parts.specs.declared.owners.ZonePlace.TheVariants as place
use Rattle.bank_parts.specs.declared.parts.ZoneOwner.{ZoneOwner}
use Rattle.bank_parts.specs.Owners.{amount_at, mods_at}
use Rattle.bank_parts.specs.declared.parts.Parts.{Parts}
use Rattle.script_notes.specs.Notes.{Numbers}
use Rattle.zone_select.specs.declared.selected_pair.PairAt.{PairAt}
use Rattle.zone_select.specs.declared.selected_pair.SelectedPairAt.{SelectedPairAt}
use Rattle.zone_select.specs.ZoneSettings.{ZoneSettings}
use Rattle.zone_select.specs.Pairs.{SelectedPair}
use Rattle.zone_select.specs.Remaining.{owner_holds}

-- the settings of zone k of owner i
abbrev pub zone_settings_in : {H : Type 0} → List (ZoneOwner H) → ℕ → ℕ → ZoneSettings
zone_settings_in owners i k = record {
  settings =
      λ op.
      cond (is_range_operator op) None
      (option_or (amount_at owners i (place.Zone k) op) (amount_at owners i place.Global op));
  mods = unwrap_or (mods_at owners i (place.Zone k)) [];
  inherited = unwrap_or (mods_at owners i place.Global) [];
}

-- the settings of zone k of an owner
abbrev pub zone_settings_at : Parts → Owner → ℕ → ZoneSettings
zone_settings_at b o k = read_of_owner b o (λ H owners i. zone_settings_in owners i k)

abbrev pub instrument_zone_at : Parts → PairAt → ZoneSettings
instrument_zone_at b at = zone_settings_at b (owner.Inst at.instrument) at.instrument_zone

abbrev pub preset_zone_at : Parts → PairAt → ZoneSettings
preset_zone_at b at = zone_settings_at b (owner.Preset at.preset) at.preset_zone

-- ---- a pair

-- the target of zone k of an owner, if the zone contains the note
abbrev pub target_held : Parts → Numbers → Owner → ℕ → Option ℕ
target_held b n o k = cond (owner_holds b n o k) (target_of b o k) None

-- the settings of both zones, and the number of the sample
abbrev pub selected_pair_at : Parts → SelectedPairAt → SelectedPair
selected_pair_at b c =
    record
    { instrument_zone = instrument_zone_at b c.zones; preset_zone = preset_zone_at b c.zones; sample = c.sample }
