-- A preset or an instrument is valid exactly if its name is valid and all tests of its contents are false.
use Rattle.std.proofs.Common.{◌≡◌, ◌<◌, ◌≤◌, ◌/◌, ◌%◌, ◌&&◌, ℕ, Bool, true, false, nat_le, not, List, refl, arith}
use Rattle.std.specs.List.{AllByRecursion, list_any}
use Rattle.std.specs.FinMap.{entries}
use Rattle.std.proofs.lemmas.Bool.Decides.{nat_tests}
use Rattle.sf_base.specs.Names.{IsName}
use Rattle.generators.specs.Gens.{Gens}
use Rattle.generators.specs.Levels.{is_allowed}
use Rattle.generators.specs.Ranges.{is_range_operator}
use Rattle.generators.specs.declared.level.Level.{Level}
use Rattle.bank_parts.specs.declared.parts.Zone.{Zone}
use Rattle.bank_parts.specs.declared.parts.ZoneOwner.{ZoneOwner}
use Rattle.bank_parts.specs.Valid.{IsGenerator, AreGenerators, IsZone, IsOwner}
use Rattle.bank_parts.specs.Contents.{has_missing_target, sets_bad_generator, has_bad_generator, is_bad_range, sets_bad_range}
use Rattle.bank_parts.specs.Contents.{has_bad_range}
use Rattle.bank_parts.proofs.Everywhere.{all_weaker, all_both, or_left, or_right, or_none, none_passes, passes_none}

-- ---- tests of numbers

in_reach : (count target : ℕ) → nat_le count target ≡ false → target < count
in_reach count target h = grind (arith, nat_tests)

reached : (count target : ℕ) → target < count → nat_le count target ≡ false
reached count target h = grind (arith, nat_tests)

ends_are : (low high : ℕ) → (nat_le low high && nat_le high 127) ≡ true → (low ≤ high) × (high ≤ 127)
ends_are low high h = (grind (arith, nat_tests), grind (arith, nat_tests))

are_ends : (low high : ℕ) → low ≤ high → high ≤ 127 → (nat_le low high && nat_le high 127) ≡ true
are_ends low high h k = grind (arith, nat_tests)

held : (b : Bool) → not b ≡ false → b ≡ true
held true h = refl
held false h = cc

not_held : (b : Bool) → b ≡ true → not b ≡ false
not_held true h = refl
not_held false h = cc

asked : (asks b : Bool) → (asks && not b) ≡ false → asks ≡ true → b ≡ true
asked true b h k = held b h
asked false b h k = cc

answers : (asks b : Bool) → (asks ≡ true → b ≡ true) → (asks && not b) ≡ false
answers true b h = not_held b (h refl)
answers false b h = refl

-- ---- generators

module _ (at : Level) where
  generator_from : (e : ℕ × ℕ) → not (is_allowed at e.0) ≡ false → is_bad_range e ≡ false → IsGenerator at e
  generator_from e own good = record {
    allowed = held (is_allowed at e.0) own;
    range =
        λ asks.
        ends_are (e.1 % 256) (e.1 / 256)
        (asked (is_range_operator e.0) (nat_le (e.1 % 256) (e.1 / 256) && nat_le (e.1 / 256) 127) good asks);
  }

  gens_from : (gens : Gens) → sets_bad_generator at gens ≡ false → sets_bad_range gens ≡ false → AreGenerators at gens
  gens_from gens own good =
      all_both (λ (e : ℕ × ℕ). not (is_allowed at e.0) ≡ false) (λ (e : ℕ × ℕ). is_bad_range e ≡ false)
      (IsGenerator at) generator_from (entries gens)
      (none_passes (λ (e : ℕ × ℕ). not (is_allowed at e.0)) (entries gens) own)
      (none_passes is_bad_range (entries gens) good)

  gens_own : (gens : Gens) → AreGenerators at gens → sets_bad_generator at gens ≡ false
  gens_own gens h =
      passes_none (λ (e : ℕ × ℕ). not (is_allowed at e.0)) (entries gens)
      (all_weaker (IsGenerator at) (λ (e : ℕ × ℕ). not (is_allowed at e.0) ≡ false)
      (λ e g. not_held (is_allowed at e.0) g.allowed) (entries gens) h)

  gens_good : (gens : Gens) → AreGenerators at gens → sets_bad_range gens ≡ false
  gens_good gens h =
      passes_none is_bad_range (entries gens)
      (all_weaker (IsGenerator at) (λ (e : ℕ × ℕ). is_bad_range e ≡ false)
      (λ e g.
      answers (is_range_operator e.0) (nat_le (e.1 % 256) (e.1 / 256) && nat_le (e.1 / 256) 127)
      (λ asks. let r = g.range asks in are_ends (e.1 % 256) (e.1 / 256) r.0 r.1))
      (entries gens) h)

-- ---- a preset or an instrument

-- all tests of its contents are false
pub record PassesTests {H : Type 0} (at : Level) (count : ℕ) (x : ZoneOwner H) : Type 0 where
  pub targets : has_missing_target count x ≡ false
  pub operators : has_bad_generator at x ≡ false
  pub ranges : has_bad_range x ≡ false

module _ {H : Type 0} (name_of : H → List ℕ) (at : Level) (count : ℕ) (x : ZoneOwner H) where
  misses : Zone → Bool
  misses z = nat_le count z.target

  foreign : Zone → Bool
  foreign z = sets_bad_generator at z.gens

  bad : Zone → Bool
  bad z = sets_bad_range z.gens

  pub owner_from_tests : IsName (name_of x.head) → PassesTests at count x → IsOwner name_of at count x
  unfolding misses foreign bad
  owner_from_tests named h =
      let own = or_right (sets_bad_generator at x.global.gens) (list_any foreign x.zones) h.operators in
      let good = or_right (sets_bad_range x.global.gens) (list_any bad x.zones) h.ranges in
      let gens : AllByRecursion (λ (z : Zone). AreGenerators at z.gens) x.zones =
      all_both (λ (z : Zone). foreign z ≡ false) (λ (z : Zone). bad z ≡ false)
      (λ (z : Zone). AreGenerators at z.gens) (λ z own good. gens_from at z.gens own good) x.zones
      (none_passes foreign x.zones own) (none_passes bad x.zones good) in
      record {
        name = named;
        zones = record {
          global =
              gens_from at x.global.gens
              (or_left (sets_bad_generator at x.global.gens) (list_any foreign x.zones) h.operators)
              (or_left (sets_bad_range x.global.gens) (list_any bad x.zones) h.ranges);
          zones =
              all_both (λ (z : Zone). misses z ≡ false) (λ (z : Zone). AreGenerators at z.gens) (IsZone at count)
              (λ z near gens. record { target = in_reach count z.target near; gens = gens }) x.zones
              (none_passes misses x.zones h.targets) gens;
        };
      }

  pub tests_from_owner : IsOwner name_of at count x → PassesTests at count x
  unfolding misses foreign bad
  tests_from_owner h =
      let zones = h.zones.zones in
      record {
        targets =
            passes_none misses x.zones
            (all_weaker (IsZone at count) (λ (z : Zone). misses z ≡ false)
            (λ z k. reached count z.target k.target) x.zones zones);
        operators =
            or_none (sets_bad_generator at x.global.gens) (list_any foreign x.zones)
            (gens_own at x.global.gens h.zones.global)
            (passes_none foreign x.zones
            (all_weaker (IsZone at count) (λ (z : Zone). foreign z ≡ false) (λ z k. gens_own at z.gens k.gens)
            x.zones zones));
        ranges =
            or_none (sets_bad_range x.global.gens) (list_any bad x.zones) (gens_good at x.global.gens h.zones.global)
            (passes_none bad x.zones
            (all_weaker (IsZone at count) (λ (z : Zone). bad z ≡ false) (λ z k. gens_good at z.gens k.gens)
            x.zones zones));
      }
