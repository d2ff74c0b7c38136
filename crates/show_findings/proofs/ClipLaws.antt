-- Clipped points, counted point by point and in runs.
use Rattle.std.proofs.Common.{◌≡◌, ◌<◌, ◌≤◌, ◌+◌, ℕ, zero, suc, List, [], ◌∷◌, ◌++◌, length, replicate, refl, ap, ◌∙◌}
use Rattle.std.proofs.Common.{sym, arith}
use Rattle.std.proofs.Common.{Bool, true, false, cond, ◌&&◌, not, subst}
use Rattle.std.specs.Prelude.{◌==◌, ◌^◌, nat_lt, nat_le}
use Rattle.std.specs.List.{fold, sum_by}
use Rattle.std.proofs.lemmas.Bool.{eq-eqb, ne_eqb}
use Rattle.std.proofs.lemmas.Bool.Decides.{nat_tests}
use Rattle.std.proofs.lemmas.List.Sums.{sum_by-cons}
use Rattle.show_findings.specs.declared.points.Clips.{Clips}
use Rattle.show_findings.specs.declared.points.PointScan.{PointScan}
use Rattle.show_findings.specs.Points.{before_runs, runs, is_end, clipped_in, clipped_points}
use Rattle.show_findings.specs.Scans.{saturated, ended, end_more, clips_more, scan_start, scan_more}
use Rattle.show_findings.specs.Scans.{facts_of}

-- ---- runs

-- equal points before runs that don't begin with such a point are one run
one_run : (e n : ℕ) (ys : List ℕ) → before_runs e (runs ys) ≡ (e, 1) ∷ runs ys
    → runs (replicate (suc n) e ++ ys) ≡ (e, suc n) ∷ runs ys
one_run e zero ys h = h
one_run e (suc n) ys h =
    let more : suc n + 1 ≡ suc (suc n) = omega arith in
    ap (before_runs e) (one_run e n ys h)
    ∙ ap (λ (t : Bool). cond t ((e, suc n + 1) ∷ runs ys) ((e, 1) ∷ (e, suc n) ∷ runs ys)) (eq-eqb e e refl)
    ∙ ap (λ (m : ℕ). (e, m) ∷ runs ys) more

-- the runs of points begin with the first point
apart : (e p : ℕ) (rs : List (ℕ × ℕ)) → (e == p) ≡ false
    → before_runs e (before_runs p rs) ≡ (e, 1) ∷ before_runs p rs
apart e p [] h = ap (λ (t : Bool). cond t ((e, 1 + 1) ∷ []) ((e, 1) ∷ (p, 1) ∷ [])) h
apart e p (r ∷ rs) h =
    elim (p == r.0) as
    (λ (u : Bool).
    before_runs e (cond u ((p, r.1 + 1) ∷ rs) ((p, 1) ∷ r ∷ rs))
    ≡ (e, 1) ∷ cond u ((p, r.1 + 1) ∷ rs) ((p, 1) ∷ r ∷ rs)) [
      | true ↦ ap (λ (t : Bool). cond t ((e, r.1 + 1 + 1) ∷ rs) ((e, 1) ∷ (p, r.1 + 1) ∷ rs)) h
      | false ↦ ap (λ (t : Bool). cond t ((e, 1 + 1) ∷ r ∷ rs) ((e, 1) ∷ (p, 1) ∷ r ∷ rs)) h
    ]

-- a run that another point ends
run_then : (e n p : ℕ) (ys : List ℕ) → (e == p) ≡ false
    → clipped_points (replicate (suc n) e ++ p ∷ ys) ≡ clipped_in (e, suc n) + clipped_points (p ∷ ys)
run_then e n p ys h =
    ap (sum_by clipped_in) (one_run e n (p ∷ ys) (apart e p (runs ys) h))
    ∙ sum_by-cons clipped_in (e, suc n) (runs (p ∷ ys))

-- a run that is the last
run_last : (e n : ℕ) → clipped_points (replicate (suc n) e ++ []) ≡ clipped_in (e, suc n)
run_last e n =
    let z : clipped_in (e, suc n) + 0 ≡ clipped_in (e, suc n) = omega arith in
    ap (sum_by clipped_in) (one_run e n [] refl) ∙ sum_by-cons clipped_in (e, suc n) [] ∙ z

-- a point that is no end of the scale is in no clipped run
unclipped : (p n : ℕ) → is_end p ≡ false → clipped_in (p, n) ≡ 0
unclipped p n h = ap (λ (t : Bool). cond (t && nat_le 3 n) n 0) h

inside_in : (p : ℕ) (rs : List (ℕ × ℕ)) → is_end p ≡ false → sum_by clipped_in (before_runs p rs) ≡ sum_by clipped_in rs
inside_in p [] h = sum_by-cons clipped_in (p, 1) [] ∙ ap (λ (m : ℕ). m + 0) (unclipped p 1 h)
inside_in p (r ∷ rs) h = go (p == r.0) refl
  where
    go : (t : Bool) → (p == r.0) ≡ t
        → sum_by clipped_in (cond t ((p, r.1 + 1) ∷ rs) ((p, 1) ∷ r ∷ rs)) ≡ sum_by clipped_in (r ∷ rs)
    go true same =
        let e : p ≡ r.0 = grind (arith, nat_tests) in
        sum_by-cons clipped_in (p, r.1 + 1) rs ∙ ap (λ (m : ℕ). m + sum_by clipped_in rs) (unclipped p (r.1 + 1) h)
        ∙ sym
        (sum_by-cons clipped_in r rs
        ∙ ap (λ (m : ℕ). m + sum_by clipped_in rs) (unclipped r.0 r.1 (ap is_end (sym e) ∙ h)))
    go false differ =
        let z : 0 + sum_by clipped_in (r ∷ rs) ≡ sum_by clipped_in (r ∷ rs) = omega arith in
        sum_by-cons clipped_in (p, 1) (r ∷ rs) ∙ ap (λ (m : ℕ). m + sum_by clipped_in (r ∷ rs)) (unclipped p 1 h) ∙ z

inside : (p : ℕ) (ys : List ℕ) → is_end p ≡ false → clipped_points (p ∷ ys) ≡ clipped_points ys
inside p ys h = inside_in p (runs ys) h

one_longer : (n p : ℕ) (ys : List ℕ) → replicate n p ++ p ∷ ys ≡ replicate (suc n) p ++ ys
one_longer zero p ys = refl
one_longer (suc n) p ys = ap (λ (t : List ℕ). p ∷ t) (one_longer n p ys)

-- ---- point by point

-- the clipped points so far, and those of the last run and the points after it
abbrev clipped_then : Clips → List ℕ → ℕ
clipped_then c ys = c.clipped + clipped_points (replicate c.run c.end ++ ys)

-- a run is at an end of the scale
abbrev IsAtEnd : Clips → Type 0
IsAtEnd c = 0 < c.run → is_end c.end ≡ true

record IsNext (c next : Clips) (p : ℕ) (ys : List ℕ) : Type 0 where
  same : clipped_then next ys ≡ clipped_then c (p ∷ ys)
  at_end : IsAtEnd next
  few : next.clipped + next.run ≤ c.clipped + c.run + 1

counted : (k n e : ℕ) → is_end e ≡ true → k + n < 2 ^ 32 → cond (nat_le 3 n) (saturated (k + n)) k ≡ k + clipped_in (e, n)
counted k n e at few =
    sym (ap (λ (t : Bool). k + cond (t && nat_le 3 n) n 0) at ∙ go (nat_le 3 n))
  where
    go : (t : Bool) → k + cond t n 0 ≡ cond t (saturated (k + n)) k
    go true = omega (arith, few)
    go false = omega arith

at_most : (t : Bool) (n : ℕ) → cond t n 0 ≤ n
at_most true n = omega arith
at_most false n = omega arith

differ : (e p : ℕ) → is_end e ≡ true → is_end p ≡ false → (e == p) ≡ false
differ e p at off = ne_eqb e p (λ (s : e ≡ p). absurd (let f : true ≡ false = sym at ∙ ap is_end s ∙ off in cc))

module _ (k n e p : ℕ) (ys : List ℕ) (at : is_end e ≡ true)
    (few : k + suc n + 1 < 2 ^ 32) where
  abbrev c : Clips
  c = record { clipped = k; run = suc n; end = e }

  whole : cond (nat_le 3 (suc n)) (saturated (k + suc n)) k ≡ k + clipped_in (e, suc n)
  whole = counted k (suc n) e at (omega (arith, few))

  -- a run ends before another point
  after_run : (e == p) ≡ false → (ended c).clipped + clipped_points (p ∷ ys) ≡ clipped_then c (p ∷ ys)
  after_run ne =
      let r = run_then e n p ys ne in
      omega (arith, whole, r)

  few_ended : (ended c).clipped ≤ k + suc n
  few_ended =
      let bound : clipped_in (e, suc n) ≤ suc n = at_most (is_end e && nat_le 3 (suc n)) (suc n) in
      omega (arith, whole, bound)

  next_in : is_end p ≡ true → (t : Bool) → (e == p) ≡ t
      → IsNext c
      (record (cond (true && not t) (ended c) c) {
        run = saturated ((cond (true && not t) (ended c) c).run + 1);
        end = p;
      }) p ys
  next_in is true same =
      let s : e ≡ p = grind (arith, nat_tests) in
      let r : saturated (suc n + 1) ≡ suc (suc n) = omega (arith, few) in
      record {
        same =
            ap (λ (m : ℕ). k + clipped_points (replicate m p ++ ys)) r
            ∙ ap (λ (t : List ℕ). k + clipped_points t) (sym (one_longer (suc n) p ys))
            ∙ ap (λ (q : ℕ). k + clipped_points (replicate (suc n) q ++ p ∷ ys)) (sym s);
        at_end = λ some. is;
        few = omega (arith, r);
      }
  next_in is false ne = record {
    same = after_run ne;
    at_end = λ some. is;
    few = omega (arith, few_ended);
  }

  next_off : is_end p ≡ false → IsNext c (ended c) p ys
  next_off off = record {
    same = ap (λ (m : ℕ). (ended c).clipped + m) (sym (inside p ys off)) ∙ after_run (differ e p at off);
    at_end = λ none. absurd (omega (arith, none));
    few = omega (arith, few_ended);
  }

abbrev made : ℕ → ℕ → ℕ → Clips
made k n e = record { clipped = k; run = n; end = e }

some : (n : ℕ) → nat_lt 0 (suc n) ≡ true
some n = grind (arith, nat_tests)

module _ (p : ℕ) (ys : List ℕ) where
  -- after a point that is at an end of the scale or not, where there was a run or not
  abbrev state : ℕ → ℕ → ℕ → Bool → Bool → Clips
  state k n e u v =
      let before = cond (v && not (e == p)) (ended (made k n e)) (made k n e) in
      cond u (record before { run = saturated (before.run + 1); end = p }) (cond v (ended (made k n e)) (made k n e))

  by_run : (k n e : ℕ) → (0 < n → is_end e ≡ true) → k + n + 1 < 2 ^ 32 → (t : Bool) → is_end p ≡ t
      → IsNext (made k n e) (clips_more (made k n e) p) p ys
  by_run k zero e at few true is =
      subst
      (λ (u : Bool). IsNext (made k 0 e) (cond u (end_more (made k 0 e) p) (made k 0 e)) p ys)
      (sym is) (record { same = refl; at_end = λ some. is; few = omega arith })
  by_run k zero e at few false off =
      let z : k + 0 ≤ k + 0 + 1 = omega arith in
      subst
      (λ (u : Bool). IsNext (made k 0 e) (cond u (end_more (made k 0 e) p) (made k 0 e)) p ys)
      (sym off)
      (record {
        same = ap (λ (m : ℕ). k + m) (sym (inside p ys off));
        at_end = λ none. absurd (omega (arith, none));
        few = z;
      })
  by_run k (suc n) e at few true is =
      subst (λ (u : Bool). IsNext (made k (suc n) e) (state k (suc n) e u (nat_lt 0 (suc n))) p ys) (sym is)
      (subst (λ (v : Bool). IsNext (made k (suc n) e) (state k (suc n) e true v) p ys) (sym (some n))
      (next_in k n e p ys (at (omega arith)) (omega (arith, few)) is (e == p) refl))
  by_run k (suc n) e at few false off =
      subst (λ (u : Bool). IsNext (made k (suc n) e) (state k (suc n) e u (nat_lt 0 (suc n))) p ys) (sym off)
      (subst (λ (v : Bool). IsNext (made k (suc n) e) (state k (suc n) e false v) p ys) (sym (some n))
      (next_off k n e p ys (at (omega arith)) (omega (arith, few)) off))

last_run : (k n e : ℕ) → (0 < n → is_end e ≡ true) → k + n < 2 ^ 32
    → (ended (made k n e)).clipped ≡ clipped_then (made k n e) []
last_run k zero e at few = let z : k ≡ k + 0 = omega arith in z
last_run k (suc n) e at few =
    counted k (suc n) e (at (omega arith)) few ∙ ap (λ (m : ℕ). k + m) (sym (run_last e n))

clips_count : (ys : List ℕ) (c : Clips) → IsAtEnd c → c.clipped + c.run + length ys < 2 ^ 32
    → (ended (fold clips_more c ys)).clipped ≡ clipped_then c ys
clips_count [] c at few = last_run c.clipped c.run c.end at (omega (arith, few))
clips_count (p ∷ ys) c at few =
    let next = by_run p ys c.clipped c.run c.end at (omega (arith, few)) (is_end p) refl in
    let less = next.few in
    clips_count ys (clips_more c p) next.at_end (omega (arith, few, less)) ∙ next.same

scan_clips : (s : PointScan) (ps : List ℕ) → (fold scan_more s ps).clips ≡ fold clips_more s.clips ps
scan_clips s [] = refl
scan_clips s (p ∷ ps) = scan_clips (scan_more s p) ps

pub clipped_is : (points : List ℕ) → length points < 2 ^ 32 → (facts_of points).clipped ≡ clipped_points points
clipped_is points few =
    ap (λ (c : Clips). (ended c).clipped) (scan_clips scan_start points)
    ∙ clips_count points scan_start.clips (λ filled. absurd (omega (arith, filled))) (omega (arith, few))
    ∙ (let z : 0 + clipped_points points ≡ clipped_points points = omega arith in z)
