use Rattle.std.proofs.Common.{rules, ◌≡◌, ◌≢◌, ℕ, suc, zero, ◌+◌, ◌*◌, ◌/◌, ◌%◌, ◌<◌, ℤ, pos, arith, List, get_or}
use Rattle.std.proofs.Common.{set, cond, nat_eq, false, length, ap, sym, subst, ◌∙◌, refl, inl, inr, SFits}
use Rattle.std.proofs.Common.{get_or-set_other, get_or-set_same}
use Rattle.std.proofs.lemmas.Int.{ints}
use Rattle.std.proofs.lemmas.Bool.{cases_lt}
use Rattle.std.proofs.lemmas.Bool.Decides.{nat_tests}
use Rattle.std.specs.Int.{w16}
use Rattle.voices.specs.Runs.{IsAdded}
use Rattle.sound_envelopes.proofs.WriteLaws.{after_set}
use Rattle.voices.proofs.RunLaws.{added, is_added, silent_added}
use Rattle.voices.proofs.runs.add_one_side.Goals as goal

-- frame k goes to one side, and zero to the other
its_frame : (run : List ℤ) (k first : ℕ) → first < 2
    → get_or run k (pos 0)
    ≡ cond (nat_eq ((2 * k + first) % 2) first) (get_or run ((2 * k + first) / 2) (pos 0)) (pos 0)
its_frame run k zero h =
    sym
    (λ j.
    cond (nat_eq ((let e : (2 * k + 0) % 2 ≡ 0 = omega arith in e) j) 0)
    (get_or run ((let e : (2 * k + 0) / 2 ≡ k = omega arith in e) j) (pos 0)) (pos 0))
its_frame run k (suc zero) h =
    sym
    (λ j.
    cond (nat_eq ((let e : (2 * k + 1) % 2 ≡ 1 = omega arith in e) j) 1)
    (get_or run ((let e : (2 * k + 1) / 2 ≡ k = omega arith in e) j) (pos 0)) (pos 0))
its_frame run k (suc (suc first)) h = absurd (omega (arith, h))

nothing : (z : ℤ) (m n : ℕ) → m ≢ n → cond (nat_eq m n) z (pos 0) ≡ pos 0
nothing z m n h = let e : nat_eq m n ≡ false = grind (arith, nat_tests) in ap (λ b. cond b z (pos 0)) e

-- a property of each sum before n holds after sum j is written, and the others are unchanged
written : (P : ℕ → ℤ → Type 0) (xs : List ℤ) (j n : ℕ) (x : ℤ) → j < length xs
    → ((i : ℕ) → i < n → i ≢ j → P i (get_or xs i (pos 0))) → P j x
    → (i : ℕ) → i < n → P i (get_or (set xs j x) i (pos 0))
written P xs j n x long others here i h =
    elim (cases_lt i j) [
      | inl lt ↦ stays (omega arith)
      | inr ge ↦ elim (cases_lt j i) [
        | inl gt ↦ stays (omega arith)
        | inr le ↦ let e : j ≡ i = omega arith in
            let o : get_or (set xs j x) j (pos 0) ≡ x = (rw get_or-set_same refl) in
            subst (λ m. P m (get_or (set xs j x) m (pos 0))) e (subst (P j) (sym o) here)
      ]
    ]
  where
    stays : i ≢ j → P i (get_or (set xs j x) i (pos 0))
    stays ne =
        let o : get_or (set xs j x) i (pos 0) ≡ get_or xs i (pos 0) = (rw get_or-set_other refl) in
        subst (P i) (sym o) (others i h ne)

pub loop-k-preserved : goal.loop-k-preserved
loop-k-preserved c =
    let k = c.loop-k.k in
    let xs = c.loop-k.sums in
    let ys = c.args.sums.now in
    let run = c.args.run.now in
    let first = c.side_index-first.result in
    let j : ℕ = 2 * k + first in
    let turn : first < 2 = c.side_index-first.ensures.first in
    let el : SFits w16 (get_or run k (pos 0)) = search rules in
    let z : c.from.result ≡ get_or run k (pos 0) = omega (arith, ints) in
    let long : j < length ys = omega (arith, c.requires.long, turn) in
    let was : get_or xs j (pos 0) ≡ get_or ys j (pos 0) = c.loop-k.invariant.rest j (omega arith) in
    let P : ℕ → ℤ → Type 0 =
    λ i y. IsAdded (get_or ys i (pos 0)) (cond (nat_eq (i % 2) first) (get_or run (i / 2) (pos 0)) (pos 0)) y in
    let others : (i : ℕ) → i < 2 * k + 2 → i ≢ j → P i (get_or xs i (pos 0)) = λ i h ne.
    elim (cases_lt i (2 * k)) [
      | inl lt ↦ c.loop-k.invariant.done i lt
      | inr ge ↦ silent_added _ _ _ (nothing _ (i % 2) first (omega arith)) (c.loop-k.invariant.rest i ge)
    ] in
    let here = is_added (get_or ys j (pos 0)) _ _ c.from.result (z ∙ its_frame run k first turn)
    (added (get_or ys j (pos 0)) (get_or xs j (pos 0)) c.from.result was (c.requires.room j long)
    (omega (arith, ints)) (omega (arith, ints)))
    (omega (arith, ints)) (omega (arith, ints)) in
    record {
      done = λ i h. written P xs j (2 * k + 2) _ (omega (arith, long, c.loop-k.auto.sums)) others here i (omega arith);
      rest = λ i h. after_set (pos 0) xs ys j _ (λ m g. c.loop-k.invariant.rest m (omega arith)) i (omega arith);
    }

pub returns : goal.returns
returns c i h =
    let done = c.loop-k.invariant.done i (omega (arith, h, c.loop-k.auto.sums, c.requires.long)) in
    subst
    (λ (n : ℕ).
    IsAdded (get_or c.args.sums.now i (pos 0))
    (cond (nat_eq (i % 2) n) (get_or c.args.run.now (i / 2) (pos 0)) (pos 0))
    (get_or c.loop-k.sums i (pos 0)))
    c.side_index-first.ensures.value done
