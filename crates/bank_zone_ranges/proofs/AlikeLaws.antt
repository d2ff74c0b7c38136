-- Zones that differ only in their own ranges: by the definition, and as the code tests it.
use Rattle.std.proofs.Common.{◌≡◌, ◌≢◌, ◌↔◌, ◌==◌, ◌&&◌, ℕ, suc, Bool, true, false, IsTrue, cond, List, [], ◌∷◌}
use Rattle.std.proofs.Common.{Some, None, refl, sym, ap, subst, ◌∙◌}
use Rattle.std.specs.Prelude.{slice_get}
use Rattle.std.specs.List.{AllByRecursion}
use Rattle.std.specs.FinMap as map
use Rattle.generators.specs.Gens.{Gens}
use Rattle.generators.proofs.Order.{tied, tied_same, untied}
use Rattle.generators.proofs.MapLaws.{same_gens, get-remove_any}
use Rattle.generators.proofs.EntryLaws as entries
use Rattle.std.specs.Ordering.{int_eq}
use Rattle.std.proofs.lemmas.Bool.Decides.{Decides-int_eq, Decides-eqb}
use Rattle.modulators.specs.declared.modulator.Modulator.{Modulator}
use Rattle.bank_zone_ranges.specs.declared.axes.Axis.{Axis}
use Rattle.bank_parts.specs.declared.parts.Zone.{Zone}
use Rattle.bank_zone_ranges.specs.Ranges.{range_operator, without_range}
use Rattle.bank_zone_ranges.specs.Splits.{same_gens as gens_test, same_mod, same_mods, agree_but_range}
use Rattle.bank_zone_ranges.proofs.SplitLists.{all_at}
use Rattle.bank_zone_ranges.specs.Agreement.{AgreesBut, AgreeBut}

all_by_place : {X : Type 0} (P : X → Type 0) (xs : List X) → ((j : ℕ) (x : X) → slice_get xs j ≡ Some x → P x)
    → AllByRecursion P xs
all_by_place P [] h = tt
all_by_place P (x ∷ xs) h = (h 0 x refl, all_by_place P xs (λ j y e. h (suc j) y e))

get-remove_other : (m : Gens) (op q : ℕ) → q ≢ op → map.get (map.remove m op) q ≡ map.get m q
get-remove_other m op q differ = get-remove_any m op q ∙ ap (λ b. cond b None (map.get m q)) (untied q op differ)

-- m has every generator of n, apart from op
agreed_amount : (m n : Gens) (op q w : ℕ) → AgreeBut m op n → q ≢ op → map.get n q ≡ Some w → map.get m q ≡ Some w
agreed_amount m n op q w h differ e =
    let (j, at) = entries.set_is_entry n q w e in all_at (AgreesBut m op) (map.entries n) j (q, w) at h differ

same_else : (m n : Gens) (op q : ℕ) → AgreeBut m op n → AgreeBut n op m → q ≢ op → map.get m q ≡ map.get n q
same_else m n op q h k differ =
    (elim (map.get n q) as (λ o. map.get n q ≡ o → map.get m q ≡ o) [
      | Some w ↦ λ e. agreed_amount m n op q w h differ e
      | None ↦ λ e. (elim (map.get m q) as (λ o. map.get m q ≡ o → o ≡ None) [
        | None ↦ λ f. refl
        | Some w ↦ λ f. let g = agreed_amount n m op q w k differ f in cc
      ]) refl
    ]) refl

pub agreeing_removed : (m n : Gens) (op : ℕ) → AgreeBut m op n → AgreeBut n op m → map.remove m op ≡ map.remove n op
agreeing_removed m n op h k =
    same_gens (map.remove m op) (map.remove n op) (λ q.
    get-remove_any m op q
    ∙ (elim (tied q op) as (λ b. tied q op ≡ b → cond b None (map.get m q) ≡ cond b None (map.get n q)) [
      | true ↦ λ p. refl
      | false ↦ λ p.
          same_else m n op q h k
          (λ (s : q ≡ op). let both : true ≡ false = sym (subst (λ x. tied q x ≡ true) s (tied_same q)) ∙ p in cc)
    ]) refl
    ∙ sym (get-remove_any n op q))

pub removed_agreeing : (m n : Gens) (op : ℕ) → map.remove m op ≡ map.remove n op → AgreeBut m op n
removed_agreeing m n op same =
    all_by_place (AgreesBut m op) (map.entries n) (λ j e at. λ differ.
    sym (get-remove_other m op e.0 differ) ∙ ap (λ x. map.get x e.0) same ∙ get-remove_other n op e.0 differ
    ∙ entries.entries_are_set n j e.0 e.1 at)

pub alike_zones : (axis : Axis) (y z : Zone)
    →
    ((y.target ≡ z.target) × (map.remove y.gens (range_operator axis) ≡ map.remove z.gens (range_operator axis))
    × (y.mods ≡ z.mods))
    ↔ (without_range axis y ≡ without_range axis z)
alike_zones axis y z = (
  λ h. λ i. let r : Zone = record { target = h.0 i; gens = h.1 i; mods = h.2 i } in r,
  λ e. (ap (λ (x : Zone). x.target) e, ap (λ (x : Zone). x.gens) e, ap (λ (x : Zone). x.mods) e),
)

-- ---- the tests

pub both_left : (a b : Bool) → (a && b) ≡ true → a ≡ true
both_left true b h = refl
both_left false b h = cc

pub both_right : (a b : Bool) → (a && b) ≡ true → b ≡ true
both_right true b h = h
both_right false b h = cc

pub both : (a b : Bool) → a ≡ true → b ≡ true → (a && b) ≡ true
both true b h k = k
both false b h k = cc

pub equal : (a b : ℕ) → (a == b) ≡ true → a ≡ b
equal a b h = (Decides-eqb a b).0 h

pub itself : (a : ℕ) → (a == a) ≡ true
itself a = (Decides-eqb a a).1 refl

gens_are : (es fs : List (ℕ × ℕ)) → gens_test es fs ≡ true → es ≡ fs
gens_are [] [] h = refl
gens_are [] (f ∷ fs) h = cc
gens_are (e ∷ es) [] h = cc
gens_are (e ∷ es) (f ∷ fs) h =
    let heads = both_left (e.0 == f.0 && e.1 == f.1) (gens_test es fs) h in
    let first = equal e.0 f.0 (both_left (e.0 == f.0) (e.1 == f.1) heads) in
    let second = equal e.1 f.1 (both_right (e.0 == f.0) (e.1 == f.1) heads) in
    let others = gens_are es fs (both_right (e.0 == f.0 && e.1 == f.1) (gens_test es fs) h) in
    λ i. (first i, second i) ∷ others i

gens_same : (es : List (ℕ × ℕ)) → gens_test es es ≡ true
gens_same [] = refl
gens_same (e ∷ es) =
    both (e.0 == e.0 && e.1 == e.1) (gens_test es es) (both (e.0 == e.0) (e.1 == e.1) (itself e.0) (itself e.1))
    (gens_same es)

mod_is : (m n : Modulator) → same_mod m n ≡ true → m ≡ n
mod_is m n h =
    let a = m.source == n.source in
    let b = m.dest == n.dest in
    let c = int_eq m.amount n.amount in
    let d = m.amount_source == n.amount_source in
    let e = m.transform == n.transform in
    let four = both_left (a && b && c && d) e h in
    let three = both_left (a && b && c) d four in
    let two = both_left (a && b) c three in
    let source = equal m.source n.source (both_left a b two) in
    let dest = equal m.dest n.dest (both_right a b two) in
    let amount = (Decides-int_eq m.amount n.amount).0 (both_right (a && b) c three) in
    let amount_source = equal m.amount_source n.amount_source (both_right (a && b && c) d four) in
    let transform = equal m.transform n.transform (both_right (a && b && c && d) e h) in
    λ i. let r : Modulator =
    record {
      source =
          source i;
      dest = dest i;
      amount = amount i;
      amount_source = amount_source i;
      transform = transform i;
    }
    in r

mod_same : (m : Modulator) → same_mod m m ≡ true
mod_same m =
    let a = m.source == m.source in
    let b = m.dest == m.dest in
    let c = int_eq m.amount m.amount in
    let d = m.amount_source == m.amount_source in
    let e = m.transform == m.transform in
    both (a && b && c && d) e
    (both (a && b && c) d
    (both (a && b) c (both a b (itself m.source) (itself m.dest)) ((Decides-int_eq m.amount m.amount).1 refl))
    (itself m.amount_source))
    (itself m.transform)

mods_are : (ms ns : List Modulator) → same_mods ms ns ≡ true → ms ≡ ns
mods_are [] [] h = refl
mods_are [] (n ∷ ns) h = cc
mods_are (m ∷ ms) [] h = cc
mods_are (m ∷ ms) (n ∷ ns) h =
    let first = mod_is m n (both_left (same_mod m n) (same_mods ms ns) h) in
    let others = mods_are ms ns (both_right (same_mod m n) (same_mods ms ns) h) in
    λ i. first i ∷ others i

mods_same : (ms : List Modulator) → same_mods ms ms ≡ true
mods_same [] = refl
mods_same (m ∷ ms) = both (same_mod m m) (same_mods ms ms) (mod_same m) (mods_same ms)

gens_of_entries : (m n : Gens) → map.entries m ≡ map.entries n → m ≡ n
gens_of_entries m n e = sym (entries.from_entries-entries m) ∙ ap map.from_entries e ∙ entries.from_entries-entries n

-- zones are alike exactly if they are equal without their ranges
pub alike_is : (axis : Axis) (y z : Zone) → agree_but_range axis y z ≡ true → without_range axis y ≡ without_range axis z
alike_is axis y z h =
    let t = y.target == z.target in
    let g = gens_test (map.entries (without_range axis y).gens) (map.entries (without_range axis z).gens) in
    let m = same_mods y.mods z.mods in
    let first = both_left (t && g) m h in
    (alike_zones axis y z).0 (
      equal y.target z.target (both_left t g first),
      gens_of_entries (without_range axis y).gens (without_range axis z).gens
          (gens_are (map.entries (without_range axis y).gens) (map.entries (without_range axis z).gens)
          (both_right t g first)),
      mods_are y.mods z.mods (both_right (t && g) m h),
    )

pub is_alike : (axis : Axis) (y z : Zone) → without_range axis y ≡ without_range axis z → agree_but_range axis y z ≡ true
is_alike axis y z e =
    let parts = (alike_zones axis y z).1 e in
    let t = y.target == z.target in
    let g = gens_test (map.entries (without_range axis y).gens) (map.entries (without_range axis z).gens) in
    let m = same_mods y.mods z.mods in
    both (t && g) m
    (both t g ((Decides-eqb y.target z.target).1 parts.0)
    (subst (λ (g : Gens). gens_test (map.entries (without_range axis y).gens) (map.entries g) ≡ true) parts.1
    (gens_same (map.entries (without_range axis y).gens))))
    (subst (λ ms. same_mods y.mods ms ≡ true) parts.2 (mods_same y.mods))

-- two tests of the same proposition are equal
pub tests_equal : {P : Type 0} (r s : Bool) → (IsTrue r ↔ P) → (s ≡ true → P) → (P → s ≡ true) → r ≡ s
tests_equal true true h k l = refl
tests_equal true false h k l = sym (l (h.0 refl))
tests_equal false true h k l = h.1 (k refl)
tests_equal false false h k l = refl
