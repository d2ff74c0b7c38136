-- Flat lists can hold the presets and instruments of a sound bank.
use Rattle.std.proofs.Common.{◌≡◌, ℕ, List, [], ◌∷◌, length, Some, None, refl, arith}
use Rattle.std.specs.List.{AllByRecursion}
use Rattle.std.specs.FinMap.{entries, get}
use Rattle.sf_base.specs.Names.{IsName}
use Rattle.generators.specs.Gens.{Gens}
use Rattle.generators.specs.Levels.{target_operator}
use Rattle.generators.specs.declared.level.Level.{Level}
use Rattle.generators.specs.declared.level.Level.TheVariants as level
use Rattle.generators.proofs.EntryLaws.{set_is_entry}
use Rattle.generators.proofs.LevelLaws.{allowed-≢-target}
use Rattle.bank_parts.specs.declared.parts.Zone.{Zone}
use Rattle.bank_parts.specs.declared.parts.Head.{Head}
use Rattle.bank_parts.specs.declared.parts.ZoneOwner.{ZoneOwner}
use Rattle.bank_parts.specs.declared.parts.Parts.{Parts}
use Rattle.bank_parts.specs.Bagged.{IsPlain, IsPlainOwner}
use Rattle.bank_parts.specs.Fits.{FitsOwner, FitsHead, FitsZone}
use Rattle.bank_parts.specs.Valid.{AreGenerators, IsGenerator, IsZone, IsOwner}
use Rattle.bank_parts.specs.Sound.{IsSound}
use Rattle.bank_parts.specs.Room.{IsStorable}
use Rattle.bank_parts.proofs.ListLaws.{everywhere-found}

-- ---- no level allows the operator of its targets

unset_where : (at : Level) (m : Gens) → AreGenerators at m → get m (target_operator at) ≡ None
unset_where at m are =
    let op = target_operator at in
    elim (get m op) as (λ g. get m op ≡ g → g ≡ None) [
      | None ↦ λ h. refl
      | Some w ↦ λ h.
          let s = set_is_entry m op w h in
          let v = everywhere-found (IsGenerator at) (entries m) s.0 (op, w) s.1 are in
          absurd (allowed-≢-target at at op v.allowed refl)
    ] refl

zones_plain : (at : Level) (count : ℕ) (zones : List Zone) → AllByRecursion (IsZone at count) zones
    → AllByRecursion FitsZone zones → AllByRecursion (λ (z : Zone). IsPlain (target_operator at) z.gens) zones
zones_plain at count [] v f = tt
zones_plain at count (z ∷ zs) v f =
    let own = v.0 in
    let fit = f.0 in
    (record { unset = unset_where at z.gens own.gens; fit = fit.gens }, zones_plain at count zs v.1 f.1)

pub owners_plain : {H : Type 0} (name_of : H → List ℕ) (IsFit : H → Type 0) (at : Level) (count : ℕ)
    (owners : List (ZoneOwner H))
    → AllByRecursion (IsOwner name_of at count) owners → AllByRecursion (FitsOwner IsFit) owners
    → AllByRecursion (IsPlainOwner (target_operator at)) owners
owners_plain name_of IsFit at count [] v f = tt
owners_plain name_of IsFit at count (x ∷ xs) v f =
    let zones = v.0.zones in
    let fit = f.0 in
    let global = fit.global in (
      record {
        global = record { unset = unset_where at x.global.gens zones.global; fit = global.gens };
        zones = zones_plain at count x.zones zones.zones fit.zones;
      },
      owners_plain name_of IsFit at count xs v.1 f.1,
    )

pub presets_plain : (b : Parts) → IsSound b → AllByRecursion (IsPlainOwner (target_operator level.Preset)) b.presets
presets_plain b s =
    let valid = s.valid in
    let fits = s.fits in
    owners_plain (λ (h : Head). h.name) FitsHead level.Preset (length b.instruments) b.presets valid.presets
    fits.presets

pub instruments_plain : (b : Parts) → IsSound b
    → AllByRecursion (IsPlainOwner (target_operator level.Inst)) b.instruments
instruments_plain b s =
    let valid = s.valid in
    let fits = s.fits in
    owners_plain (λ name. name) IsName level.Inst (length b.samples) b.instruments valid.instruments
    fits.instruments

-- within the limits there are fewer than 2 ^ 16 records of each kind
pub sound_storable : (b : Parts) → IsSound b → IsStorable b
sound_storable b s =
    let within = s.valid.limits in
    record {
      presets = record {
        zones = (let h = within.preset_zones in omega arith);
        gens = (let h = within.preset_gens in omega arith);
        mods = (let h = within.preset_mods in omega arith);
        plain = presets_plain b s;
      };
      instruments = record {
        zones = (let h = within.instrument_zones in omega arith);
        gens = (let h = within.instrument_gens in omega arith);
        mods = (let h = within.instrument_mods in omega arith);
        plain = instruments_plain b s;
      };
    }
