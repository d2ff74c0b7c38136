-- Entries with strictly increasing ranks are in order.
use Rattle.std.proofs.Common.{◌≡◌, ◌<◌, ◌+◌, ◌&&◌, ℕ, suc, Bool, true, false, [], ◌∷◌, length, refl, subst, arith}
use Rattle.std.specs.Prelude.{IsTrue}
use Rattle.std.specs.Ordering.{nat_cmp, is_lt}
use Rattle.std.specs.declared.cmp.Ordering.TheVariants.{Less}
use Rattle.std.specs.FinMap.Entries.{below_all}
use Rattle.std.proofs.lemmas.Bool.Decides.{nat_tests}
use Rattle.generators.specs.Gens.{rank, operator_cmp, AreInOrder}
use Rattle.generators.specs.Indexes.{operator_at}
use Rattle.generators.proofs.Entries.{Entries, keys_rise}

-- Each entry's rank is below the next one's.
abbrev pub RanksRise : Entries → Type 0
RanksRise es = (k : ℕ) → k + 1 < length es → rank (operator_at es k) < rank (operator_at es (k + 1))

is_below : (a b : ℕ) → a < b → IsTrue (is_lt (nat_cmp a b))
is_below a b l = grind (arith, nat_tests)

less_below : (a b : ℕ) → nat_cmp a b ≡ Less → a < b
less_below a b e = grind (arith, nat_tests)

both : (a b : Bool) → IsTrue a → IsTrue b → IsTrue (a && b)
both true b h k = k
both false b h k = h

rest_rises : (e : ℕ × ℕ) (es : Entries) → RanksRise (e ∷ es) → RanksRise es
rest_rises e es r k l =
    let n : suc k + 1 ≡ suc (k + 1) = omega arith in
    subst (λ n. rank (operator_at es k) < rank (operator_at (e ∷ es) n)) n (r (suc k) (omega arith))

-- All entries are above an operator that the first is above.
all_above : (op : ℕ) (es : Entries) → (0 < length es → rank op < rank (operator_at es 0)) → RanksRise es
    → IsTrue (below_all operator_cmp op es)
all_above op [] first r = refl
all_above op (e ∷ es) first r =
    let own : rank op < rank e.0 = first (omega arith) in
    both _ _ (is_below (rank op) (rank e.0) own)
    (all_above op es (λ l. let next = r 0 (omega arith) in omega (arith, own, next)) (rest_rises e es r))

pub order_of_ranks : (es : Entries) → RanksRise es → AreInOrder es
order_of_ranks [] r = refl
order_of_ranks (e ∷ es) r =
    both _ _ (all_above e.0 es (λ l. r 0 (omega arith)) (rest_rises e es r)) (order_of_ranks es (rest_rises e es r))

pub ranks_of_order : (es : Entries) → AreInOrder es → RanksRise es
ranks_of_order es o k l = less_below _ _ (keys_rise operator_cmp es o k (k + 1) (omega arith) l)
