-- Tests for what makes the zones of a preset or an instrument invalid.
use Rattle.std.specs.Prelude.{ℕ, Bool, ◌%◌, ◌/◌, ◌&&◌, ◌||◌, not, nat_le}
use Rattle.std.specs.List.{list_any}
use Rattle.std.specs.FinMap.{entries}
use Rattle.generators.specs.Gens.{Gens}
use Rattle.generators.specs.Levels.{is_allowed}
use Rattle.generators.specs.Ranges.{is_range_operator}
use Rattle.generators.specs.declared.level.Level.{Level}
use Rattle.bank_parts.specs.declared.parts.Zone.{Zone}
use Rattle.bank_parts.specs.declared.parts.ZoneOwner.{ZoneOwner}

-- the target of a zone is not below count, the number of instruments or samples
abbrev pub has_missing_target : {H : Type 0} → ℕ → ZoneOwner H → Bool
has_missing_target count x = list_any (λ (z : Zone). nat_le count z.target) x.zones

-- the level does not allow some generator
abbrev pub sets_bad_generator : Level → Gens → Bool
sets_bad_generator at gens = list_any (λ (e : ℕ × ℕ). not (is_allowed at e.0)) (entries gens)

-- the level does not allow some generator of the global zone or of a zone
abbrev pub has_bad_generator : {H : Type 0} → Level → ZoneOwner H → Bool
has_bad_generator at x = sets_bad_generator at x.global.gens || list_any (λ (z : Zone). sets_bad_generator at z.gens) x.zones

-- a key or velocity range that is reversed or exceeds 127
abbrev pub is_bad_range : ℕ × ℕ → Bool
is_bad_range e = is_range_operator e.0 && not (nat_le (e.1 % 256) (e.1 / 256) && nat_le (e.1 / 256) 127)

-- some generator is such a range
abbrev pub sets_bad_range : Gens → Bool
sets_bad_range gens = list_any is_bad_range (entries gens)

-- some generator of the global zone or of a zone is such a range
abbrev pub has_bad_range : {H : Type 0} → ZoneOwner H → Bool
has_bad_range x = sets_bad_range x.global.gens || list_any (λ (z : Zone). sets_bad_range z.gens) x.zones
