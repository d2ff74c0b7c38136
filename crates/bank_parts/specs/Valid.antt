-- Valid banks.
use Rattle.std.specs.Prelude.{◌≡◌, ◌≤◌, ◌<◌, ◌+◌, ◌==◌, if◌then◌else◌, ℕ, List, length, sum_by, Option, Some, None}
use Rattle.std.specs.Prelude.{true}
use Rattle.std.specs.List.{AllByRecursion}
use Rattle.std.specs.FinMap.{entries, len}
use Rattle.sf_base.specs.Names.{IsName, IsText}
use Rattle.sf_base.specs.declared.limits.TheConstants.{PRESETS, INSTRUMENTS, SAMPLES, ZONES, GENERATORS, MODULATORS}
use Rattle.sf_base.specs.declared.limits.TheConstants.{POINTS, ZERO_POINTS, TEXT_LENGTH, COMMENT_LENGTH}
use Rattle.generators.specs.Gens.{Gens}
use Rattle.generators.specs.Levels.{is_allowed}
use Rattle.generators.specs.Ranges.{is_range_operator, IsRange}
use Rattle.generators.specs.declared.level.Level.{Level}
use Rattle.generators.specs.declared.level.Level.TheVariants as level
use Rattle.bank_parts.specs.declared.parts.Kind.{Kind}
use Rattle.bank_parts.specs.Links.{IfLinked}
use Rattle.bank_parts.specs.declared.texts.Texts.{Texts}
use Rattle.bank_parts.specs.declared.parts.GlobalZone.{GlobalZone}
use Rattle.bank_parts.specs.declared.parts.Zone.{Zone}
use Rattle.bank_parts.specs.declared.parts.Head.{Head}
use Rattle.bank_parts.specs.declared.parts.ZoneOwner.{ZoneOwner}
use Rattle.bank_parts.specs.declared.parts.Sample.{Sample}
use Rattle.bank_parts.specs.declared.parts.Parts.{Parts}

-- ---- zones

-- an operator that the level allows, with an amount that is a valid range if the operator is one of a range
pub record IsGenerator (at : Level) (e : ℕ × ℕ) : Type 0 where
  pub allowed : is_allowed at e.0 ≡ true
  pub range : is_range_operator e.0 ≡ true → IsRange e.1

abbrev pub AreGenerators : Level → Gens → Type 0
AreGenerators at gens = AllByRecursion (IsGenerator at) (entries gens)

-- the target is below the number of instruments, or of samples
pub record IsZone (at : Level) (targets : ℕ) (z : Zone) : Type 0 where
  pub target : z.target < targets
  pub gens : AreGenerators at z.gens

-- the zones of a preset or an instrument
pub record AreZones (at : Level) (targets : ℕ) (shared : GlobalZone) (own : List Zone) : Type 0 where
  pub global : AreGenerators at shared.gens
  pub zones : AllByRecursion (IsZone at targets) own

-- ---- presets, instruments, samples, texts

-- a preset or an instrument, with zones valid at this level
pub record IsOwner {H : Type 0} (name_of : H → List ℕ) (at : Level) (targets : ℕ) (x : ZoneOwner H) : Type 0 where
  pub name : IsName (name_of x.head)
  pub zones : AreZones at targets x.global x.zones

abbrev pub IsPreset : ℕ → ZoneOwner Head → Type 0
IsPreset instruments = IsOwner (λ (h : Head). h.name) level.Preset instruments

abbrev pub IsInstrument : ℕ → ZoneOwner (List ℕ) → Type 0
IsInstrument samples = IsOwner (λ name. name) level.Inst samples

-- a loop of at least one point within n points
abbrev pub IsLoop : ℕ → Option (ℕ × ℕ) → Type 0
IsLoop n None = Unit {0}
IsLoop n (Some looped) = (looped.0 < looped.1) × (looped.1 ≤ n)

-- a link to one of n samples
abbrev pub IsLink : ℕ → Kind → Type 0
IsLink n kind = IfLinked (λ link. link < n) kind

pub record IsSample (samples : ℕ) (s : Sample) : Type 0 where
  pub name : IsName s.name
  pub looped : IsLoop (length s.points) s.looped
  pub kind : IsLink samples s.kind

-- no text has a zero byte; the engine is not empty
pub record AreTexts (texts : Texts) : Type 0 where
  pub engine : IsText TEXT_LENGTH texts.engine
  pub engine_there : 0 < length texts.engine
  pub name : IsText TEXT_LENGTH texts.name
  pub date : IsText TEXT_LENGTH texts.date
  pub engineers : IsText TEXT_LENGTH texts.engineers
  pub product : IsText TEXT_LENGTH texts.product
  pub copyright : IsText TEXT_LENGTH texts.copyright
  pub comment : IsText COMMENT_LENGTH texts.comment
  pub software : IsText TEXT_LENGTH texts.software

-- ---- limits

-- an empty global zone counts as none
abbrev pub global_count : GlobalZone → ℕ
global_count global = if len global.gens + length global.mods == 0 then 0 else 1

abbrev pub zone_count : GlobalZone → List Zone → ℕ
zone_count global zones = global_count global + length zones

-- the target of each zone counts as a generator
abbrev pub gen_count : GlobalZone → List Zone → ℕ
gen_count global zones = len global.gens + sum_by (λ (z : Zone). len z.gens + 1) zones

abbrev pub mod_count : GlobalZone → List Zone → ℕ
mod_count global zones = length global.mods + sum_by (λ (z : Zone). length z.mods) zones

-- the zones, the generators or the modulators of all presets, or of all instruments, as count counts them
abbrev pub owner_total : {H : Type 0} → (GlobalZone → List Zone → ℕ) → List (ZoneOwner H) → ℕ
owner_total count owners = sum_by (λ x. count x.global x.zones) owners

-- the points of all samples, each with the zero points that follow it in a file
abbrev pub point_total : List Sample → ℕ
point_total samples = sum_by (λ (s : Sample). length s.points + ZERO_POINTS) samples

pub record IsWithin (b : Parts) : Type 0 where
  pub presets : length b.presets ≤ PRESETS
  pub instruments : length b.instruments ≤ INSTRUMENTS
  pub samples : length b.samples ≤ SAMPLES
  pub preset_zones : owner_total zone_count b.presets ≤ ZONES
  pub preset_gens : owner_total gen_count b.presets ≤ GENERATORS
  pub preset_mods : owner_total mod_count b.presets ≤ MODULATORS
  pub instrument_zones : owner_total zone_count b.instruments ≤ ZONES
  pub instrument_gens : owner_total gen_count b.instruments ≤ GENERATORS
  pub instrument_mods : owner_total mod_count b.instruments ≤ MODULATORS
  pub points : point_total b.samples ≤ POINTS

-- ---- the bank

pub record IsValid (b : Parts) : Type 0 where
  pub texts : AreTexts b.texts
  pub presets : AllByRecursion (IsPreset (length b.instruments)) b.presets
  pub instruments : AllByRecursion (IsInstrument (length b.samples)) b.instruments
  pub samples : AllByRecursion (IsSample (length b.samples)) b.samples
  pub limits : IsWithin b
