-- Sets of zones.
use Rattle.std.proofs.Common.{◌≡◌, ◌==◌, ◌&&◌, ℕ, Bool, true, false, cond, List, refl, ap, sym, ◌∙◌, arith, Result, Ok, Err}
use Rattle.std.specs.Prelude.{OnOk, OnErr}
use Rattle.std.specs.List.{list_any}
use Rattle.std.specs.declared.cmp.Ordering.{Ordering}
use Rattle.std.specs.Ordering.{nat_cmp, ordering_then, is_eq}
use Rattle.std.specs.BTreeSet.{BTreeSet, Updates, IsUnchanged}
use Rattle.std.proofs.lemmas.Bool.{and_parts, eqb-true}
use Rattle.plan_edits.specs.ZoneSets.{has_numbers, AddsNumbers}

-- the order of pairs of numbers
abbrev pub order : ℕ × ℕ → ℕ × ℕ → Ordering
order x y = ordering_then (nat_cmp x.0 y.0) (nat_cmp x.1 y.1)

-- only the same numbers are equal in this order
is_same : (x y : ℕ × ℕ) → is_eq (order x y) ≡ (y.0 == x.0 && y.1 == x.1)
is_same x y = grind arith

listed : (xs : List (ℕ × ℕ)) (i k : ℕ)
    → list_any (λ (x : ℕ × ℕ). let q : ℕ × ℕ = (i, k) in is_eq (order q x)) xs ≡ has_numbers xs i k
listed xs i k = ap (λ (f : ℕ × ℕ → Bool). list_any f xs) (λ j x. let q : ℕ × ℕ = (i, k) in is_same q x j)

added : (t o : Bool) → true ≡ cond t true o → o ≡ false → t ≡ true
added true o e f = refl
added false o e f = sym (e ∙ f)

only_new : (old new : BTreeSet (ℕ × ℕ)) (i k : ℕ) → (let q : ℕ × ℕ = (i, k) in Updates order old new q true)
    → AddsNumbers old.keys new.keys i k
only_new old new i k h j l is was =
    let q : ℕ × ℕ = (j, l) in
    let p : ℕ × ℕ = (i, k) in
    let both : (j == i && l == k) ≡ true =
    sym (is_same p q)
    ∙ added (is_eq (order p q)) _ (sym is ∙ sym (listed new.keys j l) ∙ h.0 q) (listed old.keys j l ∙ was) in
    let parts = and_parts (j == i) (l == k) both in
    (eqb-true j i parts.0, eqb-true l k parts.1)

pub adds : {E : Type 0} (old new : BTreeSet (ℕ × ℕ)) (i k : ℕ) (r : Result Bool E)
    → OnOk r (let q : ℕ × ℕ = (i, k) in Updates order old new q true) → OnErr r (IsUnchanged old new)
    → AddsNumbers old.keys new.keys i k
adds old new i k (Ok a) h g j l is was = only_new old new i k h j l is was
adds old new i k (Err e) h g j l is was = absurd cc
