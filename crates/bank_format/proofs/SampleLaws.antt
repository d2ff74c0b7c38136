-- Reading the written headers and points of samples returns the samples, passes every check, and counts nothing.
use Rattle.std.proofs.Common.{◌≡◌, ◌≤◌, ◌<◌, ◌+◌, ◌-◌, ◌/◌, ◌%◌, ℕ, suc, true, false, eqb, leb, ltb, List, [], ◌∷◌}
use Rattle.std.proofs.Common.{◌++◌, length, map, replicate, Option, Some, None, refl, sym, ap, ◌∙◌, append_assoc}
use Rattle.std.proofs.Common.{arith}
use Rattle.std.specs.Prelude.{count_by, sum_by, flat_map}
use Rattle.std.specs.List.{AllByRecursion}
use Rattle.std.proofs.lemmas.Bool.Decides.{nat_tests}
use Rattle.std.proofs.lemmas.Bool.{le-leb, lt-ltb, eq-eqb}
use Rattle.std.proofs.lemmas.List.{length-append, length-replicate}
use Rattle.std.proofs.lemmas.List.Sums.{sum_by-cons}
use Rattle.bank_parts.specs.Valid.{IsSample, IsLoop, IsLink, point_total}
use Rattle.bank_parts.specs.declared.parts.Kind.{Kind}
use Rattle.bank_parts.specs.declared.parts.Kind.TheVariants.{Mono, Right, Left, Linked}
use Rattle.bank_parts.specs.declared.parts.Sample.{Sample}
use Rattle.hydra_records.specs.declared.head.SampleHead.{SampleHead}
use Rattle.bank_format.specs.FaultChecks.{first_fault}
use Rattle.bank_format.specs.Tables.{sample_head, sample_heads_from, points_written, loop_start_at, loop_end_at}
use Rattle.bank_format.specs.Tables.{kind_word, link_word}
use Rattle.bank_format.specs.Samples.{loop_read, is_loop_lost, kind_read, is_link_lost, sample_read}
use Rattle.bank_format.specs.ReadChecks.{sample_checks, total_checks}
use Rattle.bank_format.proofs.CountLaws.{count-none}
use Rattle.bank_format.proofs.CheckLaws.{then_none}
use Rattle.bank_format.proofs.NameLaws.{before_zero-filled}
use Rattle.bank_format.proofs.WindowLaws.{window-again}

abbrev with_gap : Sample → ℕ
with_gap s = length s.points + 46

pub length-sample_heads : (start : ℕ) (ss : List Sample) → length (sample_heads_from start ss) ≡ length ss
length-sample_heads start [] = refl
length-sample_heads start (s ∷ ss) = ap suc (length-sample_heads (start + length s.points + 46) ss)

pub length-points_written : (s : Sample) → length (points_written s) ≡ length s.points + 46
length-points_written s =
    length-append s.points (replicate 46 0) ∙ ap (λ (n : ℕ). length s.points + n) (length-replicate {A = ℕ} 46 0)

-- ---- the loop

loop_tests : (a x y e : ℕ) → x < y → y ≤ e
    → (leb a (a + x) ≡ true) × (ltb (a + x) (a + y) ≡ true) × (leb (a + y) (a + e) ≡ true)
loop_tests a x y e p q = (le-leb _ _ (omega arith), lt-ltb _ _ (omega arith), le-leb _ _ (omega arith))

no_loop_tests : (a : ℕ) → (leb a a ≡ true) × (ltb a a ≡ false) × (eqb a a ≡ true)
no_loop_tests a = (le-leb _ _ (omega arith), grind (arith, nat_tests), eq-eqb _ _ refl)

abbrev some_pair : ℕ → ℕ → Option (ℕ × ℕ)
some_pair x y = Some (x, y)

some_loop : (a x y : ℕ) → some_pair (a + x - a) (a + y - a) ≡ some_pair x y
some_loop a x y =
    let p : a + x - a ≡ x = omega arith in let q : a + y - a ≡ y = omega arith in λ i. some_pair (p i) (q i)

-- a header with this loop
abbrev looped_head : SampleHead → ℕ → Option (ℕ × ℕ) → SampleHead
looped_head h start looped = record h { loop_start = loop_start_at start looped; loop_end = loop_end_at start looped }

loop-again : (start : ℕ) (s : Sample) (looped : Option (ℕ × ℕ)) → IsLoop (length s.points) looped
    → (loop_read (looped_head (sample_head start s) start looped) ≡ looped)
    × (is_loop_lost (looped_head (sample_head start s) start looped) ≡ false)
unfolding loop_read is_loop_lost
loop-again start s None v = let t = no_loop_tests start in rw (t.0, t.1, t.2) (refl, refl)
loop-again start s (Some l) v =
    let t = loop_tests start l.0 l.1 (length s.points) v.0 v.1 in rw (t.0, t.1, t.2) (some_loop start l.0 l.1, refl)

-- ---- the kind

-- a header with this kind
abbrev kind_head : SampleHead → Kind → SampleHead
kind_head h kind = record h { kind = kind_word kind; link = link_word kind }

kind-again : (n : ℕ) (h : SampleHead) (kind : Kind) → IsLink n kind
    → (kind_read n (kind_head h kind) ≡ kind) × (is_link_lost n (kind_head h kind) ≡ false)
unfolding kind_read is_link_lost
kind-again n h Mono v = (refl, refl)
kind-again n h (Right x) v = let t : ltb x n ≡ true = lt-ltb _ _ v in rw t (refl, refl)
kind-again n h (Left x) v = let t : ltb x n ≡ true = lt-ltb _ _ v in rw t (refl, refl)
kind-again n h (Linked x) v = let t : ltb x n ≡ true = lt-ltb _ _ v in rw t (refl, refl)

-- ---- a sample

sample-again : (n : ℕ) (before rest : List ℕ) (s : Sample) → IsSample n s
    → sample_read n (before ++ (s.points ++ rest)) (sample_head (length before) s) ≡ s
unfolding sample_read
sample-again n before rest s v =
    let name = before_zero-filled s.name v.name in
    let points = window-again before s.points rest (length before) (length before + length s.points) refl refl in
    let looped = (loop-again (length before) s s.looped v.looped).0 in
    let kind = (kind-again n (sample_head (length before) s) s.kind v.kind).0 in
    λ i.
    record {
      name =
          name i;
      points =
          points i;
      looped = looped i;
      rate = s.rate;
      key = s.key;
      correction = s.correction;
      kind = kind i;
    }

pub samples-again : (n : ℕ) (before : List ℕ) (ss : List Sample) → AllByRecursion (IsSample n) ss
    → map (sample_read n (before ++ flat_map points_written ss)) (sample_heads_from (length before) ss) ≡ ss
samples-again n before [] v = refl
samples-again n before (s ∷ ss) v =
    let later = flat_map points_written ss in
    let pts = before ++ (points_written s ++ later) in
    let near : pts ≡ before ++ (s.points ++ (replicate 46 0 ++ later)) =
    ap (λ (t : List ℕ). before ++ t) (append_assoc s.points (replicate 46 0) later) in
    let far : pts ≡ (before ++ points_written s) ++ later = sym (append_assoc before (points_written s) later) in
    let next : length before + length s.points + 46 ≡ length (before ++ points_written s) =
    (let a = length-append before (points_written s) in let c = length-points_written s in omega (arith, a, c))
    in
    let first : sample_read n pts (sample_head (length before) s) ≡ s =
    ap (λ (p : List ℕ). sample_read n p (sample_head (length before) s)) near
    ∙ sample-again n before (replicate 46 0 ++ later) s v.0 in
    let others : map (sample_read n pts) (sample_heads_from (length before + length s.points + 46) ss) ≡ ss =
    (λ i. map (sample_read n (far i)) (sample_heads_from (next i) ss))
    ∙ samples-again n (before ++ points_written s) ss v.1 in
    λ i. first i ∷ others i

-- ---- all counts are zero

pub loops_counted : (n start : ℕ) (ss : List Sample) → AllByRecursion (IsSample n) ss
    → count_by is_loop_lost (sample_heads_from start ss) ≡ 0
loops_counted n start [] v = refl
loops_counted n start (s ∷ ss) v =
    count-none is_loop_lost (sample_head start s) (sample_heads_from (start + length s.points + 46) ss)
    (loop-again start s s.looped v.0.looped).1
    (loops_counted n (start + length s.points + 46) ss v.1)

pub links_counted : (n start : ℕ) (ss : List Sample) → AllByRecursion (IsSample n) ss
    → count_by (is_link_lost n) (sample_heads_from start ss) ≡ 0
links_counted n start [] v = refl
links_counted n start (s ∷ ss) v =
    count-none (is_link_lost n) (sample_head start s) (sample_heads_from (start + length s.points + 46) ss)
    (kind-again n (sample_head start s) s.kind v.0.kind).1
    (links_counted n (start + length s.points + 46) ss v.1)

-- ---- every check passes

kind_bits : (k : Kind) → (eqb (kind_word k / 16 % 2) 0 ≡ true) × (eqb (kind_word k / 32768 % 2) 0 ≡ true)
kind_bits Mono = (refl, refl)
kind_bits (Right n) = (refl, refl)
kind_bits (Left n) = (refl, refl)
kind_bits (Linked n) = (refl, refl)

one_holds : (points start : ℕ) (s : Sample) → start + length s.points ≤ points
    → first_fault (sample_checks points (sample_head start s)) ≡ None
unfolding sample_checks
one_holds points start s le =
    let k = kind_bits s.kind in
    let a : leb start (start + length s.points) ≡ true = le-leb _ _ (omega arith) in
    let c : leb (start + length s.points) points ≡ true = le-leb _ _ le in
    rw (k.0, k.1, a, c) refl

pub sample_steps_hold : (points start : ℕ) (ss : List Sample) → start + point_total ss ≤ points
    → first_fault (flat_map (sample_checks points) (sample_heads_from start ss)) ≡ None
sample_steps_hold points start [] le = refl
sample_steps_hold points start (s ∷ ss) le =
    let w = sum_by-cons with_gap s ss in
    then_none (sample_checks points (sample_head start s)) _ (one_holds points start s (omega (arith, w, le)))
    (sample_steps_hold points (start + length s.points + 46) ss (omega (arith, w, le)))

abbrev head_size : SampleHead → ℕ
head_size h = h.end - h.start + 46

total-heads : (start : ℕ) (ss : List Sample) → sum_by head_size (sample_heads_from start ss) ≡ point_total ss
total-heads start [] = refl
total-heads start (s ∷ ss) =
    let r = total-heads (start + length s.points + 46) ss in
    let w = sum_by-cons with_gap s ss in
    let u = sum_by-cons head_size (sample_head start s) (sample_heads_from (start + length s.points + 46) ss) in
    omega (arith, r, w, u)

pub total_steps_hold : (start : ℕ) (ss : List Sample) → point_total ss ≤ 500000000
    → first_fault (total_checks (sample_heads_from start ss)) ≡ None
unfolding total_checks
total_steps_hold start ss le =
    let t = total-heads start ss in
    let e : leb (sum_by head_size (sample_heads_from start ss)) 500000000 ≡ true =
    le-leb _ _ (omega (arith, t, le)) in
    rw e refl
