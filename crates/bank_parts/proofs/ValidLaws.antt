-- Which generator records are those of valid presets or instruments, and that all numbers lie in the ranges of their
-- fields.
use Rattle.std.proofs.Common.{if◌then◌else◌, ◌≡◌, ◌↔◌, ℕ, ◌<◌, ◌-◌, ◌==◌, ◌&&◌, ◌||◌, not, nat_lt, nat_le, Bool}
use Rattle.std.proofs.Common.{true, false, IsTrue, List, [], ◌∷◌, ◌++◌, length, map, take, refl, sym, subst, ◌∙◌, ap}
use Rattle.std.proofs.Common.{length-append, arith}
use Rattle.std.specs.Bool.{OnTrue}
use Rattle.std.specs.List.{AllByRecursion, list_any, list_all}
use Rattle.std.specs.FinMap.{entries}
use Rattle.std.proofs.lemmas.Bool.Decides.{nat_tests}
use Rattle.sf_base.specs.Names.{IsName}
use Rattle.generators.specs.Gens.{FitsEntry, FitEntries}
use Rattle.generators.specs.Levels.{is_allowed, target_operator}
use Rattle.generators.specs.declared.level.Level.{Level}
use Rattle.modulators.specs.Modulators.{FitsModulator}
use Rattle.flat_records.specs.Bags.{Bag, gens_in, mods_in}
use Rattle.flat_records.specs.Owned.{all_bags}
use Rattle.bank_parts.specs.declared.parts.Zone.{Zone}
use Rattle.bank_parts.specs.declared.parts.ZoneOwner.{ZoneOwner}
use Rattle.bank_parts.specs.Fits.{FitsOwner, FitsZone}
use Rattle.bank_parts.specs.Valid.{IsOwner}
use Rattle.bank_parts.specs.Contents.{has_missing_target, sets_bad_generator, has_bad_generator, is_bad_range, sets_bad_range}
use Rattle.bank_parts.specs.Contents.{has_bad_range}
use Rattle.bank_parts.proofs.ContentLaws.{owner_from_tests, tests_from_owner}
use Rattle.bank_parts.specs.Bagged.{zone_bag, bags_of, IsPlain, IsPlainOwner}
use Rattle.bank_parts.specs.Records.{is_valid_record}
use Rattle.bank_parts.specs.Flat.{RepresentOwners}
use Rattle.bank_parts.proofs.RecordLaws.{and_true, not_or, six, five, same_op, all-append, others, owner_gens}
use Rattle.bank_parts.proofs.RecordLaws.{owner_mods, gens_before, mods_before}

-- ---- valid generator records

mixed : (allowed bad foreign range : Bool)
    → ((allowed && not bad) && (not foreign && not range)) ≡ (not (not allowed || foreign) && not (bad || range))
mixed true false foreign range = refl
mixed true true true range = refl
mixed true true false range = refl
mixed false bad foreign range = refl

below_not : (n m : ℕ) → nat_lt n m ≡ not (nat_le m n)
below_not n m = grind (arith, nat_tests)

module _ (at : Level) (count : ℕ) where
  misses : Zone → Bool
  misses z = nat_le count z.target

  foreign : Zone → Bool
  foreign z = sets_bad_generator at z.gens

  bad : Zone → Bool
  bad z = sets_bad_range z.gens

  valid_entries : (es : List (ℕ × ℕ)) → AllByRecursion (λ e. (e.0 == target_operator at) ≡ false) es
      → list_all (is_valid_record at count) es
      ≡ (not (list_any (λ (e : ℕ × ℕ). not (is_allowed at e.0)) es) && not (list_any is_bad_range es))
  valid_entries [] h = refl
  valid_entries (e ∷ es) h =
      ap
      (λ b.
      (if b then nat_lt e.1 count else (is_allowed at e.0 && not (is_bad_range e)))
      && list_all (is_valid_record at count) es)
      h.0
      ∙ (ap (λ b. (is_allowed at e.0 && not (is_bad_range e)) && b) (valid_entries es h.1)
      ∙ mixed (is_allowed at e.0) (is_bad_range e) (list_any (λ (e : ℕ × ℕ). not (is_allowed at e.0)) es)
      (list_any is_bad_range es))

  target_valid : (z : Zone)
      → list_all (is_valid_record at count) ((target_operator at, z.target) ∷ []) ≡ not (nat_le count z.target)
  target_valid z =
      let op = target_operator at in
      and_true (is_valid_record at count (op, z.target))
      ∙
      (ap (λ b. if b then nat_lt z.target count else (is_allowed at op && not (is_bad_range (op, z.target))))
      (same_op op)
      ∙ below_not z.target count)

  valid_zone : (z : Zone) → IsPlain (target_operator at) z.gens
      → list_all (is_valid_record at count) (entries z.gens ++ (target_operator at, z.target) ∷ [])
      ≡ ((not (sets_bad_generator at z.gens) && not (sets_bad_range z.gens)) && not (nat_le count z.target))
  valid_zone z plain =
      let op = target_operator at in
      all-append (is_valid_record at count) (entries z.gens) ((op, z.target) ∷ [])
      ∙ (λ i. valid_entries (entries z.gens) (others op z.gens plain) i && target_valid z i)

  valid_zones : (zones : List Zone) → AllByRecursion (λ (z : Zone). IsPlain (target_operator at) z.gens) zones
      → list_all (is_valid_record at count) (gens_in (map (zone_bag (target_operator at)) zones))
      ≡ (not (list_any misses zones) && (not (list_any foreign zones) && not (list_any bad zones)))
  unfolding misses foreign bad
  valid_zones [] h = refl
  valid_zones (z ∷ zs) h =
      let op = target_operator at in
      let f = sets_bad_generator at z.gens in
      let b = sets_bad_range z.gens in
      let m = nat_le count z.target in
      all-append (is_valid_record at count) (entries z.gens ++ (op, z.target) ∷ []) (gens_in (map (zone_bag op) zs))
      ∙ ((λ i. valid_zone z h.0 i && valid_zones zs h.1 i)
      ∙ (six (not f) (not b) (not m) (not (list_any misses zs)) (not (list_any foreign zs)) (not (list_any bad zs))
      ∙ (λ i. sym (not_or m (list_any misses zs)) i
      && (sym (not_or f (list_any foreign zs)) i && sym (not_or b (list_any bad zs)) i))))

  valid_owner : {H : Type 0} (x : ZoneOwner H) → IsPlainOwner (target_operator at) x
      → list_all (is_valid_record at count) (gens_in (bags_of (target_operator at) x))
      ≡ (not (has_missing_target count x) && (not (has_bad_generator at x) && not (has_bad_range x)))
  unfolding misses foreign bad
  valid_owner x plain =
      let op = target_operator at in
      let f = sets_bad_generator at x.global.gens in
      let b = sets_bad_range x.global.gens in
      ap (list_all (is_valid_record at count)) (owner_gens op x)
      ∙ (all-append (is_valid_record at count) (entries x.global.gens) (gens_in (map (zone_bag op) x.zones))
      ∙ ((λ i. valid_entries (entries x.global.gens) (others op x.global.gens plain.global) i
      && valid_zones x.zones plain.zones i)
      ∙ (five (not f) (not b) (not (list_any misses x.zones)) (not (list_any foreign x.zones))
      (not (list_any bad x.zones))
      ∙ (λ i. not (list_any misses x.zones)
      && (sym (not_or f (list_any foreign x.zones)) i && sym (not_or b (list_any bad x.zones)) i)))))

-- ---- owners

none_of : (m f b : Bool) → (not m && (not f && not b)) ≡ true → (m ≡ false) × (f ≡ false) × (b ≡ false)
none_of true f b e = cc
none_of false true b e = cc
none_of false false true e = cc
none_of false false false e = (refl, refl, refl)

both_parts : (a b : Bool) → (a && b) ≡ true → (a ≡ true) × (b ≡ true)
both_parts true true e = (refl, refl)
both_parts true false e = cc
both_parts false b e = cc

module _ {H : Type 0} (name_of : H → List ℕ) (at : Level) (count : ℕ) where
  owners_valid : (owners : List (ZoneOwner H)) → AllByRecursion (IsPlainOwner (target_operator at)) owners
      → AllByRecursion (λ h. IsName (name_of h)) (map (λ (x : ZoneOwner H). x.head) owners)
      → list_all (is_valid_record at count) (gens_in (all_bags (map (bags_of (target_operator at)) owners))) ≡ true
      → AllByRecursion (IsOwner name_of at count) owners
  owners_valid [] plain named e = tt
  owners_valid (x ∷ xs) plain named e =
      let op = target_operator at in
      let rest = all_bags (map (bags_of op) xs) in
      let split =
      ap (list_all (is_valid_record at count)) (gens_before op x rest)
      ∙ all-append (is_valid_record at count) (gens_in (bags_of op x)) (gens_in rest) in
      let parts =
      both_parts (list_all (is_valid_record at count) (gens_in (bags_of op x)))
      (list_all (is_valid_record at count) (gens_in rest)) (sym split ∙ e) in
      let tests =
      none_of (has_missing_target count x) (has_bad_generator at x) (has_bad_range x)
      (sym (valid_owner at count x plain.0) ∙ parts.0) in (
        owner_from_tests name_of at count x named.0
            (record { targets = tests.0; operators = tests.1; ranges = tests.2 }),
        owners_valid xs plain.1 named.1 parts.1,
      )

  own_valid : (x : ZoneOwner H) → IsPlainOwner (target_operator at) x → has_missing_target count x ≡ false
      → has_bad_generator at x ≡ false → has_bad_range x ≡ false
      → list_all (is_valid_record at count) (gens_in (bags_of (target_operator at) x)) ≡ true
  own_valid x plain m f b = valid_owner at count x plain ∙ (λ i. not (m i) && (not (f i) && not (b i)))

  records_valid : (owners : List (ZoneOwner H)) → AllByRecursion (IsPlainOwner (target_operator at)) owners
      → AllByRecursion (IsOwner name_of at count) owners
      → list_all (is_valid_record at count) (gens_in (all_bags (map (bags_of (target_operator at)) owners))) ≡ true
  records_valid [] plain h = refl
  records_valid (x ∷ xs) plain h =
      let op = target_operator at in
      let rest = all_bags (map (bags_of op) xs) in
      let tests = tests_from_owner name_of at count x h.0 in
      ap (list_all (is_valid_record at count)) (gens_before op x rest)
      ∙ (all-append (is_valid_record at count) (gens_in (bags_of op x)) (gens_in rest)
      ∙ (λ i. own_valid x plain.0 tests.targets tests.operators tests.ranges i && records_valid xs plain.1 h.1 i))

  pub valid_exactly : {heads : List H} {bags : List (List Bag)} {owners : List (ZoneOwner H)}
      → RepresentOwners (target_operator at) heads bags owners → AllByRecursion (λ h. IsName (name_of h)) heads
      → (r : Bool) → r ≡ list_all (is_valid_record at count) (gens_in (all_bags bags))
      → IsTrue r ↔ AllByRecursion (IsOwner name_of at count) owners
  valid_exactly {heads} {bags} {owners} a named r e =
      let same = e ∙ ap (λ bs. list_all (is_valid_record at count) (gens_in (all_bags bs))) a.bags in (
        λ t.
            owners_valid owners a.plain (subst (AllByRecursion (λ h. IsName (name_of h))) a.heads named)
            (sym same ∙ t),
        λ all. same ∙ records_valid owners a.plain all,
      )

-- ---- numbers in the ranges of their fields

module _ {X : Type 0} (P : X → Type 0) where
  pub all-front : (xs ys : List X) → AllByRecursion P (xs ++ ys) → AllByRecursion P xs
  all-front [] ys p = tt
  all-front (x ∷ xs) ys p = (p.0, all-front xs ys p.1)

  pub all-back : (xs ys : List X) → AllByRecursion P (xs ++ ys) → AllByRecursion P ys
  all-back [] ys p = p
  all-back (x ∷ xs) ys p = all-back xs ys p.1

zones_fit : (op : ℕ) (zones : List Zone) → AllByRecursion (λ (z : Zone). IsPlain op z.gens) zones
    → FitEntries (gens_in (map (zone_bag op) zones))
    → AllByRecursion FitsModulator (mods_in (map (zone_bag op) zones)) → AllByRecursion FitsZone zones
zones_fit op [] plain gens mods = tt
zones_fit op (z ∷ zs) plain gens mods =
    let own = all-front FitsEntry (entries z.gens ++ (op, z.target) ∷ []) (gens_in (map (zone_bag op) zs)) gens in
    let target = all-back FitsEntry (entries z.gens) ((op, z.target) ∷ []) own in (
      record {
        target =
            target.0.1;
        gens =
            plain.0.fit;
        mods = all-front FitsModulator z.mods (mods_in (map (zone_bag op) zs)) mods;
      },
      zones_fit op zs plain.1
          (all-back FitsEntry (entries z.gens ++ (op, z.target) ∷ []) (gens_in (map (zone_bag op) zs)) gens)
          (all-back FitsModulator z.mods (mods_in (map (zone_bag op) zs)) mods),
    )

module _ {H : Type 0} (IsFit : H → Type 0) (op : ℕ) where
  owners_fit : (owners : List (ZoneOwner H)) → AllByRecursion (IsPlainOwner op) owners
      → AllByRecursion IsFit (map (λ (x : ZoneOwner H). x.head) owners)
      → FitEntries (gens_in (all_bags (map (bags_of op) owners)))
      → AllByRecursion FitsModulator (mods_in (all_bags (map (bags_of op) owners)))
      → AllByRecursion (FitsOwner IsFit) owners
  owners_fit [] plain heads gens mods = tt
  owners_fit (x ∷ xs) plain heads gens mods =
      let rest = all_bags (map (bags_of op) xs) in
      let zones = map (zone_bag op) x.zones in
      let all_gens = subst FitEntries (gens_before op x rest) gens in
      let all_mods = subst (AllByRecursion FitsModulator) (mods_before op x rest) mods in
      let own_gens =
      subst FitEntries (owner_gens op x) (all-front FitsEntry (gens_in (bags_of op x)) (gens_in rest) all_gens)
      in
      let own_mods =
      subst (AllByRecursion FitsModulator) (owner_mods op x)
      (all-front FitsModulator (mods_in (bags_of op x)) (mods_in rest) all_mods) in
      let p = plain.0 in (
        record {
          head = heads.0;
          global =
              record { gens = p.global.fit; mods = all-front FitsModulator x.global.mods (mods_in zones) own_mods };
          zones =
              zones_fit op x.zones p.zones (all-back FitsEntry (entries x.global.gens) (gens_in zones) own_gens)
              (all-back FitsModulator x.global.mods (mods_in zones) own_mods);
        },
        owners_fit xs plain.1 heads.1 (all-back FitsEntry (gens_in (bags_of op x)) (gens_in rest) all_gens)
            (all-back FitsModulator (mods_in (bags_of op x)) (mods_in rest) all_mods),
      )

  pub all_fit : {heads : List H} {bags : List (List Bag)} {owners : List (ZoneOwner H)} → RepresentOwners op heads bags owners
      → AllByRecursion IsFit heads
      → FitEntries (gens_in (all_bags bags)) → AllByRecursion FitsModulator (mods_in (all_bags bags))
      → AllByRecursion (FitsOwner IsFit) owners
  all_fit {heads} {bags} {owners} a fit gens mods =
      owners_fit owners a.plain (subst (AllByRecursion IsFit) a.heads fit)
      (subst (λ bs. FitEntries (gens_in (all_bags bs))) a.bags gens)
      (subst (λ bs. AllByRecursion FitsModulator (mods_in (all_bags bs))) a.bags mods)

-- ---- a list and its terminal

take_front : {X : Type 0} (xs ys : List X) → take (length xs) (xs ++ ys) ≡ xs
take_front [] ys = refl
take_front (x ∷ xs) ys = ap (λ zs. x ∷ zs) (take_front xs ys)

pub terminal_off : {X : Type 0} (xs : List X) (x : X) → take (length (xs ++ x ∷ []) - 1) (xs ++ x ∷ []) ≡ xs
terminal_off xs x =
    let size = length-append xs (x ∷ []) in
    let count : length (xs ++ x ∷ []) - 1 ≡ length xs = omega arith in
    ap (λ n. take n (xs ++ x ∷ [])) count ∙ take_front xs (x ∷ [])

pub terminal_there : {X : Type 0} (xs : List X) (x : X) → 0 < length (xs ++ x ∷ [])
terminal_there xs x = let size = length-append xs (x ∷ []) in omega arith

pub on_true : (r : Bool) (Q : Type 0) → Q → OnTrue r Q
on_true true Q q = q
on_true false Q q = tt
