-- Laws of positions that wrap and advance.
use Rattle.std.proofs.Common.{◌≡◌, ℕ, zero, suc, ◌+◌, ◌-◌, ◌*◌, ◌/◌, ◌%◌, ◌<◌, ◌≤◌, Bool, true, false, cond, not}
use Rattle.std.proofs.Common.{◌&&◌, refl, sym, ◌∙◌, ap, arith, inl, inr, nat_le}
use Rattle.zone_select.specs.declared.parameters.VoiceParameters.{VoiceParameters}
use Rattle.std.proofs.lemmas.Nat.{mod_below, div_below}
use Rattle.std.proofs.lemmas.Bool.{cases_lt}
use Rattle.std.proofs.lemmas.Bool.Decides.{nat_tests}
use Rattle.std.proofs.Math.Nat.{mul-add-mod_self_right, mod-eq_of_lt}
use Rattle.std.proofs.lemmas.Nat.{div-add-mod', mul-le}
use Rattle.voices.specs.Position.{wrapped, looped_position, position, is_looping, is_loop_left}

pub wrapped_below : (from to x : ℕ) → x < to → wrapped from to x ≡ x
wrapped_below from to x h =
    let t : nat_le to x ≡ false = grind (arith, nat_tests) in ap (λ b. cond b (from + (x - from) % (to - from)) x) t

pub wrapped_above : (from to x : ℕ) → to ≤ x → wrapped from to x ≡ from + (x - from) % (to - from)
wrapped_above from to x h =
    let t : nat_le to x ≡ true = grind (arith, nat_tests) in ap (λ b. cond b (from + (x - from) % (to - from)) x) t

-- a position past a loop's end by less than the loop's length
pub wrapped_once : (from to x : ℕ) → from < to → to ≤ x → x - to < to - from → wrapped from to x ≡ x - (to - from)
wrapped_once from to x h ge lt =
    let w : ℕ = to - from in
    let y : ℕ = x - to in
    let d : x - from ≡ 1 * w + y = omega arith in
    let m : (x - from) % w ≡ y = ap (λ z. z % w) d ∙ mul-add-mod_self_right 1 w y ∙ mod-eq_of_lt lt in
    wrapped_above from to x ge ∙ ap (λ z. from + z) m ∙ omega arith

pub wrapped_within : (from to x : ℕ) → from < to → wrapped from to x < to
wrapped_within from to x h =
    elim (cases_lt x to) [
      | inl lt ↦ let e : wrapped from to x ≡ x = wrapped_below from to x lt in omega arith
      | inr ge ↦ let e : wrapped from to x ≡ from + (x - from) % (to - from) = wrapped_above from to x ge in
          let b : (x - from) % (to - from) < to - from = mod_below (x - from) (to - from) (omega arith) in omega arith
    ]

-- a remainder plus a step
mod_step : (y w phase_increment : ℕ) → (y % w + phase_increment) % w ≡ (y + phase_increment) % w
mod_step y w phase_increment =
    let e : y / w * w + y % w ≡ y = div-add-mod' y w in
    let f : y + phase_increment ≡ y / w * w + (y % w + phase_increment) = omega arith in
    sym (ap (λ x. x % w) f ∙ mul-add-mod_self_right (y / w) w (y % w + phase_increment))

wrapped_later : (from to x phase_increment : ℕ) → from < to → to ≤ x
    → wrapped from to (from + (x - from) % (to - from) + phase_increment) ≡ wrapped from to (x + phase_increment)
wrapped_later from to x phase_increment h ge =
    let m : ℕ = (x - from) % (to - from) in
    let g : (m + phase_increment) % (to - from) ≡ (x - from + phase_increment) % (to - from) = mod_step (x - from) (to - from) phase_increment in
    let d : x - from + phase_increment ≡ x + phase_increment - from = omega arith in
    let r : wrapped from to (x + phase_increment) ≡ from + (m + phase_increment) % (to - from) =
    wrapped_above from to (x + phase_increment) (omega arith) ∙ ap (λ y. from + y % (to - from)) (sym d)
    ∙ ap (λ y. from + y) (sym g) in
    elim (cases_lt (from + m + phase_increment) to) [
      | inl lt ↦ let k : (m + phase_increment) % (to - from) ≡ m + phase_increment = mod-eq_of_lt (omega arith) in
          wrapped_below from to (from + m + phase_increment) lt ∙ omega arith
      | inr over ↦ let k : from + m + phase_increment - from ≡ m + phase_increment = omega arith in
          wrapped_above from to (from + m + phase_increment) over ∙ ap (λ y. from + y % (to - from)) k ∙ sym r
    ]

-- wrapping before a step makes no difference
pub wrapped_step : (from to x phase_increment : ℕ) → from < to
    → wrapped from to (wrapped from to x + phase_increment) ≡ wrapped from to (x + phase_increment)
wrapped_step from to x phase_increment h =
    elim (cases_lt x to) [
      | inl lt ↦ ap (λ y. wrapped from to (y + phase_increment)) (wrapped_below from to x lt)
      | inr ge ↦
          ap (λ y. wrapped from to (y + phase_increment)) (wrapped_above from to x ge) ∙ wrapped_later from to x phase_increment h ge
    ]

pub wrapped_next : (position from to first t phase_increment : ℕ) → from < to → position ≡ wrapped from to (first + t * phase_increment)
    → wrapped from to (position + phase_increment) ≡ wrapped from to (first + (t + 1) * phase_increment)
wrapped_next position from to first t phase_increment h e =
    let f : first + t * phase_increment + phase_increment ≡ first + (t + 1) * phase_increment = omega arith in
    ap (λ y. wrapped from to (y + phase_increment)) e ∙ wrapped_step from to (first + t * phase_increment) phase_increment h ∙ ap (wrapped from to) f

-- a position fits in 60 bits
pub far_position : (first t phase_increment : ℕ) → first < 4294967296 → t < 8589934592 → phase_increment ≤ 73043661
    → 65536 * first + t * phase_increment < 1152921504606846976
far_position first t phase_increment h g k =
    let e : t * phase_increment ≤ 8589934592 * 73043661 = mul-le t phase_increment 8589934592 73043661 (omega arith) k in omega arith

pub far_advance : (t l phase_increment : ℕ) → t < 8589934592 → phase_increment ≤ 73043661 → (t - l) * phase_increment < 1152921504606846976
far_advance t l phase_increment g k =
    let e : (t - l) * phase_increment ≤ 8589934592 * 73043661 = mul-le (t - l) phase_increment 8589934592 73043661 (omega arith) k in
    omega arith

cond_inside : (looped left : Bool) (x y from to : ℕ) → (looped && not left) ≡ true → (looped ≡ true → from < to)
    → cond left y (cond looped (wrapped from to x) x) < to
cond_inside true false x y from to e h = wrapped_within from to x (h refl)
cond_inside true true x y from to e h = cc
cond_inside false left x y from to e h = cc

-- an active loop keeps the position before its end
pub position_inside : (v : VoiceParameters) (t : ℕ) → is_looping v t ≡ true
    → (v.looped ≡ true → v.loop_start < v.loop_end) → position v t < 65536 * v.loop_end
unfolding position looped_position
position_inside v t e h =
    cond_inside v.looped (is_loop_left v t) (65536 * v.start + t * v.phase_increment) _ (65536 * v.loop_start)
    (65536 * v.loop_end) e (λ l. let g : v.loop_start < v.loop_end = h l in omega arith)

by_looped : (looped : Bool) (from to first t phase_increment : ℕ) → (looped ≡ true → from < to)
    → cond looped (wrapped from to (first + (t + 1) * phase_increment)) (first + (t + 1) * phase_increment)
    ≡ cond looped (wrapped from to (cond looped (wrapped from to (first + t * phase_increment)) (first + t * phase_increment) + phase_increment))
    (cond looped (wrapped from to (first + t * phase_increment)) (first + t * phase_increment) + phase_increment)
by_looped true from to first t phase_increment h =
    sym (wrapped_next (wrapped from to (first + t * phase_increment)) from to first t phase_increment (h refl) refl)
by_looped false from to first t phase_increment h = omega arith

looped_place_more : (v : VoiceParameters) (t : ℕ) → (v.looped ≡ true → v.loop_start < v.loop_end)
    → looped_position v (t + 1)
    ≡ cond v.looped (wrapped (65536 * v.loop_start) (65536 * v.loop_end) (looped_position v t + v.phase_increment))
    (looped_position v t + v.phase_increment)
unfolding looped_position
looped_place_more v t h =
    by_looped v.looped (65536 * v.loop_start) (65536 * v.loop_end) (65536 * v.start) t v.phase_increment
    (λ l. let g : v.loop_start < v.loop_end = h l in omega arith)

minus_self : (l t : ℕ) → l ≡ t + 1 → t + 1 - l ≡ 0
minus_self l t e = omega arith

late_case : (looped : Bool) (x y z : ℕ) → y ≡ z → y ≡ cond (looped && not true) x z
late_case true x y z e = e
late_case false x y z e = e

early_case : (looped : Bool) (x z : ℕ) → cond looped x z ≡ cond (looped && not false) x z
early_case true x z = refl
early_case false x z = refl

at_end : (b : Bool) (l t phase_increment : ℕ) (r : ℕ → ℕ) → (b ≡ true → l ≡ t + 1)
    → cond b (r l + (t + 1 - l) * phase_increment) (r (t + 1)) ≡ r (t + 1)
at_end false l t phase_increment r f = refl
at_end true l t phase_increment r f =
    let e : l ≡ t + 1 = f refl in
    let g : (t + 1 - l) * phase_increment ≡ 0 = ap (λ x. x * phase_increment) (minus_self l t e) ∙ omega arith in
    ap (λ x. x + (t + 1 - l) * phase_increment) (ap r e) ∙ omega arith

late : (looped : Bool) (l t phase_increment : ℕ) (r w : ℕ → ℕ) → l ≤ t
    → cond (nat_le l (t + 1)) (r l + (t + 1 - l) * phase_increment) (r (t + 1))
    ≡ cond (looped && not (nat_le l t)) (w (cond (nat_le l t) (r l + (t - l) * phase_increment) (r t) + phase_increment))
    (cond (nat_le l t) (r l + (t - l) * phase_increment) (r t) + phase_increment)
late looped l t phase_increment r w h =
    let a : nat_le l t ≡ true = grind (arith, nat_tests) in
    let b : nat_le l (t + 1) ≡ true = grind (arith, nat_tests) in
    let m : t + 1 - l ≡ t - l + 1 = omega arith in
    let f : r l + (t + 1 - l) * phase_increment ≡ r l + (t - l) * phase_increment + phase_increment = ap (λ x. r l + x * phase_increment) m ∙ omega arith in
    rw (a, b) (late_case looped (w (r l + (t - l) * phase_increment + phase_increment)) _ _ f)

early : (looped : Bool) (l t phase_increment : ℕ) (r w : ℕ → ℕ) → r (t + 1) ≡ cond looped (w (r t + phase_increment)) (r t + phase_increment) → t < l
    → cond (nat_le l (t + 1)) (r l + (t + 1 - l) * phase_increment) (r (t + 1))
    ≡ cond (looped && not (nat_le l t)) (w (cond (nat_le l t) (r l + (t - l) * phase_increment) (r t) + phase_increment))
    (cond (nat_le l t) (r l + (t - l) * phase_increment) (r t) + phase_increment)
early looped l t phase_increment r w e h =
    let a : nat_le l t ≡ false = grind (arith, nat_tests) in
    let f : cond (nat_le l (t + 1)) (r l + (t + 1 - l) * phase_increment) (r (t + 1)) ≡ r (t + 1) =
    at_end (nat_le l (t + 1)) l t phase_increment r (λ q. grind (arith, nat_tests)) in
    f ∙ e ∙ rw a (early_case looped _ _)

by_until : (until looped : Bool) (l t phase_increment : ℕ) (r w : ℕ → ℕ) → r (t + 1) ≡ cond looped (w (r t + phase_increment)) (r t + phase_increment)
    → cond (until && nat_le l (t + 1)) (r l + (t + 1 - l) * phase_increment) (r (t + 1))
    ≡ cond (looped && not (until && nat_le l t)) (w (cond (until && nat_le l t) (r l + (t - l) * phase_increment) (r t) + phase_increment))
    (cond (until && nat_le l t) (r l + (t - l) * phase_increment) (r t) + phase_increment)
by_until false true l t phase_increment r w e = e
by_until false false l t phase_increment r w e = e
by_until true looped l t phase_increment r w e =
    elim (cases_lt t l) [
      | inl lt ↦ early looped l t phase_increment r w e lt
      | inr ge ↦ late looped l t phase_increment r w ge
    ]

-- the next position wraps if the loop is active, and advances linearly otherwise
pub position_more : (v : VoiceParameters) (t : ℕ) → (v.looped ≡ true → v.loop_start < v.loop_end)
    → position v (t + 1)
    ≡ cond (is_looping v t) (wrapped (65536 * v.loop_start) (65536 * v.loop_end) (position v t + v.phase_increment))
    (position v t + v.phase_increment)
unfolding position
position_more v t h =
    by_until v.until_release v.looped v.length t v.phase_increment (looped_position v)
    (wrapped (65536 * v.loop_start) (65536 * v.loop_end)) (looped_place_more v t h)

straight_case : (until looped : Bool) (l t phase_increment : ℕ) (r : ℕ → ℕ) → (looped ≡ false → r (t + 1) ≡ r t + phase_increment)
    → (looped && not (until && nat_le l t)) ≡ false
    → cond (until && nat_le l (t + 1)) (r l + (t + 1 - l) * phase_increment) (r (t + 1))
    ≡ cond (until && nat_le l t) (r l + (t - l) * phase_increment) (r t) + phase_increment
straight_case false false l t phase_increment r e f = e refl
straight_case false true l t phase_increment r e f = absurd cc
straight_case true false l t phase_increment r e f =
    elim (cases_lt t l) [
      | inl lt ↦ early false l t phase_increment r (λ x. x) (e refl) lt
      | inr ge ↦ late false l t phase_increment r (λ x. x) ge
    ]
straight_case true true l t phase_increment r e f = late false l t phase_increment r (λ x. x) (grind (arith, nat_tests))

-- without an active loop the position advances linearly
pub position_straight : (v : VoiceParameters) (t : ℕ) → is_looping v t ≡ false → position v (t + 1) ≡ position v t + v.phase_increment
unfolding position looped_position
position_straight v t e =
    straight_case v.until_release v.looped v.length t v.phase_increment (looped_position v)
    (λ l. let f : 65536 * v.start + (t + 1) * v.phase_increment ≡ 65536 * v.start + t * v.phase_increment + v.phase_increment = omega arith in rw l f) e

times_div : (k d n : ℕ) → k ≤ d / n → k * n ≤ d
times_div k d n h =
    let e : d / n * n + d % n ≡ d = div-add-mod' d n in
    let f : k * n ≤ d / n * n = mul-le k n (d / n) n h (omega arith) in omega arith

-- n positions lie before `to` if n is at most the rounded-up number of increments to it
pub run_stays : (x phase_increment to n k : ℕ) → x < to → n ≤ (to - 1 - x) / phase_increment + 1 → k < n → x + k * phase_increment < to
run_stays x phase_increment to n k h g l =
    let e : k * phase_increment ≤ to - 1 - x = times_div k (to - 1 - x) phase_increment (omega arith) in omega arith

-- if the last position lies before `to`, all do
pub all_before : (x phase_increment to n k : ℕ) → x + (n - 1) * phase_increment < to → k < n → x + k * phase_increment < to
all_before x phase_increment to n k h l =
    let e : k * phase_increment ≤ (n - 1) * phase_increment = mul-le k phase_increment (n - 1) phase_increment (omega arith) (omega arith) in omega arith

-- if the last position doesn't lie before `to`, the increment isn't zero, and fewer positions lie before it
pub moves_on : (x phase_increment to n : ℕ) → x < to → to ≤ x + (n - 1) * phase_increment → 0 < phase_increment
moves_on x zero to n h g = absurd (omega (arith, (let e : (n - 1) * 0 ≡ 0 = omega arith in e)))
moves_on x (suc phase_increment) to n h g = omega arith

pub fewer : (x phase_increment to n : ℕ) → x < to → to ≤ x + (n - 1) * phase_increment → (to - 1 - x) / phase_increment + 1 ≤ n
fewer x phase_increment to n h g =
    let p : 0 < phase_increment = moves_on x phase_increment to n h g in
    let b : (to - 1 - x) / phase_increment < n - 1 = div_below (to - 1 - x) phase_increment (n - 1) p (omega arith) in omega arith

pub one_less : (n phase_increment : ℕ) → (n - 1) * phase_increment ≤ n * phase_increment
one_less n phase_increment = mul-le (n - 1) phase_increment n phase_increment (omega arith) (omega arith)

pub advance_small : (n phase_increment : ℕ) → n ≤ 1024 → phase_increment ≤ 73043661 → n * phase_increment ≤ 74796708864
advance_small n phase_increment h g = mul-le n phase_increment 1024 73043661 h g

-- an earlier position is not greater
pub less_far : (x k n phase_increment far : ℕ) → k < n → x + n * phase_increment < far → (k * phase_increment < far) × (x + k * phase_increment < far)
less_far x k n phase_increment far l h =
    let e : k * phase_increment ≤ n * phase_increment = mul-le k phase_increment n phase_increment (omega arith) (omega arith) in (omega arith, omega arith)
