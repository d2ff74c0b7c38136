-- Loops over the records of a table.
use Rattle.std.proofs.Common.{◌≡◌, ◌<◌, ◌+◌, ◌-◌, ℕ, suc, List, [], ◌∷◌, ◌++◌, take, map, Option, Some, None, Result}
use Rattle.std.proofs.Common.{refl, sym, ap, subst, ◌∙◌, append_assoc, arith}
use Rattle.std.specs.Prelude.{flat_map, sum_by}
use Rattle.std.specs.Result.{IsErrAnd}
use Rattle.std.proofs.lemmas.List.Sums.{sum_by-cons}
use Rattle.std.specs.Iterator.{YieldsFirst}
use Rattle.std.specs.Iterator.Adapters.{take_source, take_count, take_steps}
use Rattle.std.specs.declared.iter.Take.{Take}
use Rattle.std.proofs.lemmas.Bool.{lt-leb}
use Rattle.std.proofs.lemmas.Iterator.{YieldsList, YieldsList-from_take}
use Rattle.std.proofs.lemmas.Iterator.Consumers.{YieldsList-from_first}
use Rattle.hydra_records.specs.declared.head.SampleHead.{SampleHead}
use Rattle.bank_format.specs.declared.fault.ReadFault.{ReadFault}
use Rattle.bank_format.specs.declared.fault.ReadFault.TheVariants.{TooMany}
use Rattle.bank_format.specs.FaultChecks.{Check, first_fault, Passes}
use Rattle.bank_format.specs.ReadChecks.{total_checks}
use Rattle.bank_format.proofs.CheckLaws.{first_fault-append, first_fault-front, passes_by}

-- the next of at most n records is x, and at most m follow it
module _ {X : Type 0} (n m : ℕ) (xs ys : List X) (x : X) (next : xs ≡ x ∷ ys) (fewer : m + 1 ≡ n) where
  pub take-next : take n xs ≡ x ∷ take m ys
  take-next = let e : n ≡ suc m = omega (arith, fewer) in rw (e, next) refl

  -- its checks hold, so the result depends on the remaining records
  pub checks_hold : (f : X → List (Check ReadFault)) (whole : Option ReadFault) → first_fault (f x) ≡ None
      → first_fault (flat_map f (take n xs)) ≡ whole → first_fault (flat_map f (take m ys)) ≡ whole
  checks_hold f whole holds so_far =
      sym (first_fault-append (f x) (flat_map f (take m ys)) holds)
      ∙ sym (ap (λ (l : List X). first_fault (flat_map f l)) take-next) ∙ so_far

  -- one of its checks fails
  pub checks_fail : {Y : Type 0} (view : Y → Unit {0}) (f : X → List (Check ReadFault)) (r : Result Y ReadFault)
      (e : ReadFault) (whole : List (Check ReadFault))
      → IsErrAnd r (λ d. d ≡ e) → first_fault (f x) ≡ Some e
      → first_fault (flat_map f (take n xs)) ≡ first_fault whole → Passes view r whole tt
  checks_fail view f r e whole is h so_far =
      let all = ap (λ (l : List X). first_fault (flat_map f l)) take-next in
      passes_by view tt r e whole is (sym so_far ∙ all ∙ first_fault-front (f x) (flat_map f (take m ys)) e h)

  -- a running sum
  pub sum_more : (f : X → ℕ) (total here whole : ℕ) → here ≡ f x → total + sum_by f (take n xs) ≡ whole
      → total + here + sum_by f (take m ys) ≡ whole
  sum_more f total here whole is so_far =
      let e : sum_by f (take n xs) ≡ f x + sum_by f (take m ys) =
      ap (sum_by f) take-next ∙ sum_by-cons f x (take m ys) in
      omega (arith, e, is, so_far)

  -- a list built by the loop
  pub map_more : {Y : Type 0} (f : X → Y) (old new : List Y) (made : Y) (whole : List Y)
      → made ≡ f x → new ≡ old ++ made ∷ [] → old ++ map f (take n xs) ≡ whole → new ++ map f (take m ys) ≡ whole
  map_more f old new made whole is pushed so_far =
      let all = ap (λ (l : List X). old ++ map f l) take-next in
      ap (λ (l : List _). l ++ map f (take m ys)) pushed
      ∙ append_assoc old (made ∷ []) (map f (take m ys))
      ∙ ap (λ (y : _). old ++ y ∷ map f (take m ys)) is
      ∙ sym all ∙ so_far

-- ---- the total

pub total_breaks : (heads : List SampleHead) → 500000000 < sum_by (λ (h : SampleHead). h.end - h.start + 46) heads
    → first_fault (total_checks heads) ≡ Some TooMany
unfolding total_checks
total_breaks heads h = rw (lt-leb _ _ h) refl

-- ---- checks of consecutive records

pub rows_yield : {X : Type 0} (s : Take (List X)) (xs : List X) → take (take_count s) (take_source s) ≡ xs
    → YieldsList (take_steps (YieldsFirst (λ l. l))) (λ x. x) s xs
rows_yield s xs e =
    subst (λ (l : List _). YieldsList (take_steps (YieldsFirst (λ r. r))) (λ x. x) s l) e
    (YieldsList-from_take (take_count s) (YieldsList-from_first (λ x. x) (λ l. l) (take_source s) refl) refl)
