-- Laws of stretches of frames, and of adding them to sums.
use Rattle.std.proofs.Common.{◌≡◌, ℕ, zero, suc, ◌+◌, ◌-◌, ◌*◌, ◌/◌, ◌%◌, ◌<◌, ◌≤◌, ℤ, pos, negsuc, ◌+ℤ◌, ◌-ℤ◌, ◌≤ℤ◌}
use Rattle.std.proofs.Common.{Bool, true, false, cond, not, ◌&&◌, List, get_or, nat_eq, nat_le, refl, sym, ◌∙◌, ap}
use Rattle.std.proofs.Common.{subst, arith, inl, inr, to_z, of_z, true≢false}
use Rattle.std.specs.Int.{w32}
use Rattle.std.proofs.lemmas.Int.{ints}
use Rattle.std.proofs.lemmas.Bool.{cases_lt}
use Rattle.std.proofs.lemmas.Bool.Decides.{nat_tests}
use Rattle.zone_select.specs.declared.parameters.VoiceParameters.{VoiceParameters}
use Rattle.voices.specs.Panning.{side}
use Rattle.voices.specs.Position.{wrapped, position, is_looping, is_over}
use Rattle.zone_select.specs.Playable.{IsPlayable}
use Rattle.zone_select.specs.Select.{Voice}
use Rattle.voices.specs.Sound.{snd, unpanned_frame_at, frame_or_silence_at, part_of}
use Rattle.voices.specs.Within.{IsWithin}
use Rattle.voices.specs.Runs.{IsAdded, IsShared, IsStretch, limit, wrapped_position}
use Rattle.voices.proofs.PositionLaws.{position_more, position_inside, wrapped_above, wrapped_below, wrapped_step}
use Rattle.std.proofs.lemmas.Nat.{div-add-mod'}
use Rattle.voices.proofs.OverLaws.{loop_left_stays, over_stays, position_sounds}
use Rattle.voices.proofs.PanningLaws.{side_of_none}
use Rattle.sound_tables.specs.Floor.{clamped_at_zero}

same_end : (l t k : ℕ) → (t < l → t + k < l) → nat_le l (t + k) ≡ nat_le l t
same_end l t k h =
    elim (cases_lt t l) [
      | inl lt ↦ let g : t + k < l = h lt in
          let a : nat_le l (t + k) ≡ false = grind (arith, nat_tests) in
          let b : nat_le l t ≡ false = grind (arith, nat_tests) in a ∙ sym b
      | inr ge ↦
          let a : nat_le l (t + k) ≡ true = grind (arith, nat_tests) in
          let b : nat_le l t ≡ true = grind (arith, nat_tests) in a ∙ sym b
    ]

-- on either side of the note's end, the loop is active throughout or not at all
pub same_loop : (v : VoiceParameters) (t k : ℕ) → (t < v.length → t + k < v.length)
    → is_looping v (t + k) ≡ is_looping v t
same_loop v t k h = ap (λ b. v.looped && not (v.until_release && b)) (same_end v.length t k h)

-- without an active loop the position advances linearly
pub straight_on : (v : VoiceParameters) (t k : ℕ) → (v.looped ≡ true → v.loop_start < v.loop_end)
    → is_looping v t ≡ false
    → (is_looping v (t + k) ≡ false) × (position v (t + k) ≡ position v t + k * v.phase_increment)
straight_on v t zero h e =
    let q : t ≡ t + 0 = omega arith in
    (subst (λ x. is_looping v x ≡ false) q e, subst (λ x. position v x ≡ position v t + 0 * v.phase_increment) q (omega arith))
straight_on v t (suc k) h e =
    let ih = straight_on v t k h e in
    let q : t + k + 1 ≡ t + suc k = omega arith in
    let m : position v (t + k + 1) ≡ position v (t + k) + v.phase_increment =
    position_more v (t + k) h
    ∙ ap
    (λ b.
    cond b (wrapped (65536 * v.loop_start) (65536 * v.loop_end) (position v (t + k) + v.phase_increment))
    (position v (t + k) + v.phase_increment))
    ih.0 in
    let f : position v (t + k + 1) ≡ position v t + suc k * v.phase_increment = m ∙ ap (λ x. x + v.phase_increment) ih.1 ∙ omega arith in (
      subst (λ x. is_looping v x ≡ false) q (loop_left_stays v (t + k) ih.0),
      subst (λ x. position v x ≡ position v t + suc k * v.phase_increment) q f,
    )

not_over : (ended looping : Bool) (at end : ℕ) → ended ≡ false → (looping ≡ false → at < end)
    → cond ended true (not looping && nat_le end at) ≡ false
not_over false true at end e h = refl
not_over false false at end e h = let g : at < end = h refl in grind (arith, nat_tests)
not_over true looping at end e h = absurd cc

pub stretch_is : (v : VoiceParameters) (t n : ℕ) → (v.looped ≡ true → v.loop_start < v.loop_end)
    → t + n < 8589934592 → t + n ≤ v.length + v.release → (t < v.length → t + n ≤ v.length)
    → (is_looping v t ≡ false → (k : ℕ) → k < n → position v t + k * v.phase_increment < 65536 * v.end)
    → IsStretch v t n
stretch_is v t n h young unreleased before near = record {
  young = young;
  unreleased = unreleased;
  held = before;
  same = λ k l. same_loop v t k (λ g. let b : t + n ≤ v.length = before g in omega arith);
  sounds = λ k l.
      let s : is_looping v (t + k) ≡ is_looping v t =
      same_loop v t k (λ g. let b : t + n ≤ v.length = before g in omega arith) in
      not_over (nat_le (v.length + v.release) (t + k)) (is_looping v (t + k)) (position v (t + k)) (65536 * v.end)
      (let u : t + k < v.length + v.release = omega arith in grind (arith, nat_tests))
      (λ e. let f : is_looping v t ≡ false = sym s ∙ e in
      let p : position v (t + k) ≡ position v t + k * v.phase_increment = (straight_on v t k h f).1 in
      let b : position v t + k * v.phase_increment < 65536 * v.end = near f k l in omega arith);
}

-- a sum of at most 65534 voices has space for one more
pub added : (was sum r : ℤ) → sum ≡ was → IsWithin 65534 was → negsuc 32767 ≤ℤ r → r ≤ℤ pos 32767
    → to_z w32 (of_z w32 (to_z w32 (of_z w32 sum) +ℤ to_z w32 (of_z w32 r))) ≡ was +ℤ r
added was sum r e room lo hi = omega (arith, ints, e, room.0, room.1, lo, hi)

pub left_side : (run : List ℤ) (k left right : ℕ)
    → side (get_or run (2 * k / 2) (pos 0)) (cond (nat_eq (2 * k % 2) 0) left right)
    ≡ side (get_or run k (pos 0)) left
left_side run k left right =
    λ j.
    side (get_or run ((let e : 2 * k / 2 ≡ k = omega arith in e) j) (pos 0))
    (cond (nat_eq ((let e : 2 * k % 2 ≡ 0 = omega arith in e) j) 0) left right)

pub right_side : (run : List ℤ) (k left right : ℕ)
    → side (get_or run ((2 * k + 1) / 2) (pos 0)) (cond (nat_eq ((2 * k + 1) % 2) 0) left right)
    ≡ side (get_or run k (pos 0)) right
right_side run k left right =
    λ j.
    side (get_or run ((let e : (2 * k + 1) / 2 ≡ k = omega arith in e) j) (pos 0))
    (cond (nat_eq ((let e : (2 * k + 1) % 2 ≡ 1 = omega arith in e) j) 0) left right)

pub is_added : (was s sum r : ℤ) → r ≡ s → sum ≡ was +ℤ r → negsuc 32767 ≤ℤ r → r ≤ℤ pos 32767 → IsAdded was s sum
is_added was s sum r e f lo hi =
    record {
      added =
          f ∙ ap (λ (x : ℤ). was +ℤ x) e;
      low =
          subst (λ (x : ℤ). negsuc 32767 ≤ℤ x) e lo;
      high = subst (λ (x : ℤ). x ≤ℤ pos 32767) e hi;
    }

-- sharing, when only the side's sum changes
pub shared_side : (was m sound sum m' : ℤ) → IsAdded was sound sum → m' ≡ m → IsShared was m sound sum m'
shared_side was m sound sum m' a e =
    let added = a.added in
    let low = a.low in
    let high = a.high in
    record {
      added = omega (arith, ints, added, e);
      side_room =
          λ j h. (omega (arith, ints, added, low, high, h.0, h.1), omega (arith, ints, added, low, high, h.0, h.1));
      middle_room = λ j h. (omega (arith, ints, e, h.0, h.1), omega (arith, ints, e, h.0, h.1));
    }

pub shared_middle : (was m sound sum m' : ℤ) → sum ≡ was → IsAdded m sound m' → IsShared was m sound sum m'
shared_middle was m sound sum m' e a =
    let s = shared_side m was sound m' sum a e in
    let added = s.added in
    record { added = omega (arith, ints, added); side_room = s.middle_room; middle_room = s.side_room }

add_nothing : (was : ℤ) → was ≡ was +ℤ pos 0
add_nothing was = omega (arith, ints)

pub silent_added : (was s sum : ℤ) → s ≡ pos 0 → sum ≡ was → IsAdded was s sum
silent_added was s sum e f =
    is_added was s sum (pos 0) (sym e) (f ∙ add_nothing was) (omega (arith, ints)) (omega (arith, ints))

-- a voice that is over is silent
pub over_is_silent : (v : Voice) (left : Bool) (t : ℕ) → is_over v.parameters t ≡ true → snd v left t ≡ pos 0
unfolding snd
over_is_silent v left t e = ap (λ b. cond b (pos 0) (side (unpanned_frame_at v t) (part_of v.parameters left))) e

-- adding a stretch, with frames counted from the start of the run
pub later_added : (v : Voice) (age at k : ℕ) (was was' sum : ℤ) → at % 2 ≡ 0 → was' ≡ was
    → IsAdded was' (snd v (nat_eq (k % 2) 0) (age + at / 2 + k / 2)) sum
    → IsAdded was (snd v (nat_eq ((at + k) % 2) 0) (age + (at + k) / 2)) sum
later_added v age at k was was' sum even e a =
    let p : k % 2 ≡ (at + k) % 2 = omega arith in
    let q : age + at / 2 + k / 2 ≡ age + (at + k) / 2 = omega arith in
    subst (λ w. IsAdded w (snd v (nat_eq ((at + k) % 2) 0) (age + (at + k) / 2)) sum) e
    (subst (λ x. IsAdded was' (snd v (nat_eq x 0) (age + (at + k) / 2)) sum) p
    (subst (λ x. IsAdded was' (snd v (nat_eq (k % 2) 0) x) sum) q a))

-- the frame of a voice that isn't over, and of one that is
pub frame_if_sounding : (v : Voice) (t : ℕ) → is_over v.parameters t ≡ false → frame_or_silence_at v t ≡ unpanned_frame_at v t
unfolding frame_or_silence_at
frame_if_sounding v t e = ap (λ b. cond b (pos 0) (unpanned_frame_at v t)) e

pub silence_if_over : (v : Voice) (s t : ℕ) → is_over v.parameters s ≡ true → s ≤ t → frame_or_silence_at v t ≡ pos 0
unfolding frame_or_silence_at
silence_if_over v s t e l = ap (λ b. cond b (pos 0) (unpanned_frame_at v t)) (over_stays v.parameters s t l e)

-- panning a frame gives its side
panned_side : (v : Voice) (left : Bool) (t : ℕ) → side (frame_or_silence_at v t) (part_of v.parameters left) ≡ snd v left t
unfolding frame_or_silence_at snd
panned_side v left t = by_case (is_over v.parameters t) (unpanned_frame_at v t) (part_of v.parameters left)
  where
    by_case : (over : Bool) (z : ℤ) (part : ℕ) → side (cond over (pos 0) z) part ≡ cond over (pos 0) (side z part)
    by_case true z part = side_of_none part
    by_case false z part = refl

pub frame_added : (v : Voice) (t i left right : ℕ) (z was sum : ℤ)
    → IsAdded was (side z (cond (nat_eq i 0) left right)) sum
    → z ≡ frame_or_silence_at v t → left ≡ part_of v.parameters true → right ≡ part_of v.parameters false
    → IsAdded was (snd v (nat_eq i 0) t) sum
frame_added v t i left right z was sum a e f g =
    subst (λ (s : ℤ). IsAdded was s sum)
    (ap (λ (y : ℤ). side y (cond (nat_eq i 0) left right)) e ∙ by_side (nat_eq i 0)) a
  where
    by_side : (b : Bool) → side (frame_or_silence_at v t) (cond b left right) ≡ snd v b t
    by_side true = ap (side (frame_or_silence_at v t)) f ∙ panned_side v true t
    by_side false = ap (side (frame_or_silence_at v t)) g ∙ panned_side v false t

-- both sides of a centred voice get half of each frame
pub central_side : (v : Voice) (left : Bool) (t : ℕ) → v.parameters.pan ≡ pos 0 → side (frame_or_silence_at v t) 500 ≡ snd v left t
central_side v left t e =
    ap (side (frame_or_silence_at v t)) (by_side left ∙ sym (ap (λ p. clamped_at_zero (cond left (pos 500 -ℤ p) (pos 500 +ℤ p))) e))
    ∙ panned_side v left t
  where
    by_side : (b : Bool) → 500 ≡ clamped_at_zero (cond b (pos 500 -ℤ pos 0) (pos 500 +ℤ pos 0))
    by_side true = refl
    by_side false = refl

pub differ : (b : Bool) → b ≡ true → b ≡ false → ⊥
differ b e f = true≢false (sym e ∙ f)

-- a bound computed from equal numbers
pub near_is : (x x' s s' e e' k : ℕ) → x ≡ x' → s ≡ s' → e ≡ e' → x + k * s < 65536 * e → x' + k * s' < 65536 * e'
near_is x x' s s' e e' k p q r h =
    subst (λ y. y + k * s' < 65536 * e') p
    (subst (λ y. x + k * y < 65536 * e') q (subst (λ y. x + k * s < 65536 * y) r h))

-- a voice that isn't over reads before the loop's end, or the sample's
pub position_near : (n : ℕ) (v : VoiceParameters) (t : ℕ) (looping : Bool) → IsPlayable n v → is_over v t ≡ false
    → is_looping v t ≡ looping
    → position v t < 65536 * limit v looping
position_near n v t true p o e = position_inside v t e p.ordered
position_near n v t false p o e = position_sounds n v t p o

-- the position k frames later can be wrapped in one step
pub position_on : (v : VoiceParameters) (t k : ℕ) (looping : Bool) → (v.looped ≡ true → v.loop_start < v.loop_end)
    → is_looping v t ≡ looping
    → ((j : ℕ) → j < k → is_looping v (t + j) ≡ looping) → (looping ≡ true → v.loop_start < v.loop_end)
    → position v (t + k) ≡ wrapped_position v looping (position v t + k * v.phase_increment)
position_on v t k false h e same o = (straight_on v t k h e).1
position_on v t zero true h e same o =
    let q : position v t ≡ position v (t + 0) = ap (position v) (omega arith) in
    let r : position v t ≡ position v t + 0 * v.phase_increment = omega arith in
    sym q ∙ sym (wrapped_below (65536 * v.loop_start) (65536 * v.loop_end) (position v t) (position_inside v t e h))
    ∙ ap (wrapped (65536 * v.loop_start) (65536 * v.loop_end)) r
position_on v t (suc k) true h e same o =
    let from = 65536 * v.loop_start in
    let to = 65536 * v.loop_end in
    let ih : position v (t + k) ≡ wrapped from to (position v t + k * v.phase_increment) =
    position_on v t k true h e (λ j l. same j (omega arith)) o in
    let q : position v (t + suc k) ≡ position v (t + k + 1) = ap (position v) (omega arith) in
    let lt : v.loop_start < v.loop_end = o refl in
    let m : position v (t + k + 1) ≡ wrapped from to (position v (t + k) + v.phase_increment) =
    position_more v (t + k) h
    ∙ ap (λ b. cond b (wrapped from to (position v (t + k) + v.phase_increment)) (position v (t + k) + v.phase_increment))
    (same k (omega arith)) in
    let r : position v t + k * v.phase_increment + v.phase_increment ≡ position v t + suc k * v.phase_increment = omega arith in
    q ∙ m ∙ ap (λ x. wrapped from to (x + v.phase_increment)) ih
    ∙ wrapped_step from to (position v t + k * v.phase_increment) v.phase_increment (omega arith) ∙ ap (wrapped from to) r

-- before its limit a position doesn't wrap
pub gone_near : (v : VoiceParameters) (looping : Bool) (x : ℕ) → x < 65536 * limit v looping → wrapped_position v looping x ≡ x
gone_near v true x h = wrapped_below (65536 * v.loop_start) (65536 * v.loop_end) x h
gone_near v false x h = refl

-- a remainder by whole points keeps the fraction
whole_part : (y w : ℕ) → y % (65536 * w) % 65536 ≡ y % 65536
whole_part y w =
    let d : y / (65536 * w) * (65536 * w) + y % (65536 * w) ≡ y = div-add-mod' y (65536 * w) in omega (arith, d)

-- wrapping keeps the fraction of a position
pub gone_part : (v : VoiceParameters) (looping : Bool) (x : ℕ) → (looping ≡ true → v.loop_start < v.loop_end)
    → wrapped_position v looping x % 65536 ≡ x % 65536
gone_part v false x h = refl
gone_part v true x h =
    let from = 65536 * v.loop_start in
    let to = 65536 * v.loop_end in
    let lt : v.loop_start < v.loop_end = h refl in
    elim (cases_lt x to) [
      | inl below ↦ ap (λ y. y % 65536) (wrapped_below from to x below)
      | inr ge ↦
          let w : to - from ≡ 65536 * (v.loop_end - v.loop_start) = omega arith in
          let e : wrapped from to x ≡ from + (x - from) % (65536 * (v.loop_end - v.loop_start)) =
          wrapped_above from to x ge ∙ ap (λ y. from + (x - from) % y) w in
          let p = whole_part (x - from) (v.loop_end - v.loop_start) in omega (arith, e, p, ge)
    ]

-- the fraction of a position k frames later, from fractions alone
pub same_part : (x phase_increment k : ℕ) → (x % 65536 + k * (phase_increment % 65536)) % 65536 ≡ (x + k * phase_increment) % 65536
same_part x phase_increment k =
    let e : phase_increment ≡ phase_increment / 65536 * 65536 + phase_increment % 65536 = omega arith in
    let f : k * phase_increment ≡ k * (phase_increment / 65536) * 65536 + k * (phase_increment % 65536) = ap (λ y. k * y) e ∙ omega arith in
    omega (arith, f)
