-- The points around a position, read from one slice.
use Rattle.std.proofs.Common.{◌≡◌, ℕ, ◌+◌, ◌-◌, ◌*◌, ◌/◌, ◌%◌, ◌<◌, ◌≤◌, pos, Bool, true, false, cond, ◌&&◌, ◌==◌}
use Rattle.std.proofs.Common.{List, length, get_or, take, drop, nat_lt, refl, ◌∙◌, ap, arith}
use Rattle.std.proofs.lemmas.Bool.Decides.{nat_tests}
use Rattle.std.specs.Int.{w16, cast_signed}
use Rattle.sample_view.specs.Words.{words}
use Rattle.sample_view.specs.Runs.{IsRunAround}
use Rattle.sample_view.proofs.RunLaws.{get_or-run}
use Rattle.sample_view.proofs.WordLaws.{length-words, words-drop, get_or-words}
use Rattle.std.proofs.lemmas.List.{length-drop, drop-take}
use Rattle.std.proofs.lemmas.Grind.{common_steps}
use Rattle.zone_select.specs.declared.parameters.VoiceParameters.{VoiceParameters}
use Rattle.voices.specs.declared.slices.Slice.{Slice}
use Rattle.voices.specs.VoiceState.{IsCurrentSlice}
use Rattle.voices.specs.Points.{between, point_at, follower, point_of}
use Rattle.voices.specs.Runs.{limit, pair_at, interpolated_pair, straight}

word_at : (bytes : List ℕ) (i : ℕ) → 2 * i + 1 < length bytes
    → get_or (words bytes) i 0 ≡ get_or bytes (2 * i) 0 + 256 * get_or bytes (2 * i + 1) 0
word_at bytes i h = get_or-words (2 * i) i bytes refl h

-- a point and the next one are four bytes
pub pair_is : (bytes : List ℕ) (i : ℕ) → 2 * i + 3 < length bytes
    → pair_at (words bytes) i
    ≡ get_or bytes (2 * i) 0 + 256 * get_or bytes (2 * i + 1) 0 + 65536 * get_or bytes (2 * i + 2) 0
    + 16777216 * get_or bytes (2 * i + 3) 0
pair_is bytes i h =
    let here = word_at bytes i (omega arith) in
    let next : get_or (words bytes) (i + 1) 0 ≡ get_or bytes (2 * i + 2) 0 + 256 * get_or bytes (2 * i + 3) 0 =
    get_or-words (2 * i + 2) (i + 1) bytes (omega arith) (omega arith)
    ∙ ap (λ k. get_or bytes (2 * i + 2) 0 + 256 * get_or bytes k 0) (omega arith) in
    omega (arith, here, next)

-- a position relative to another point
from_first : (x p : ℕ) → 65536 * p ≤ x
    → ((x - 65536 * p) / 65536 ≡ x / 65536 - p) × ((x - 65536 * p) % 65536 ≡ x % 65536)
from_first x p h = (omega arith, omega arith)

point_run : (points bytes : List ℕ) (i first k j : ℕ) → IsRunAround points i bytes first → 2 * k + 1 < length bytes
    → i - first + k ≡ j
    → point_at (words bytes) k ≡ point_at points j
unfolding point_at
point_run points bytes i first k j run h e =
    ap (cast_signed w16) (get_or-run points bytes i first k run h ∙ ap (λ m. get_or points m 0) e)

next_point : (points : List ℕ) (looping : Bool) (loop_end start end i : ℕ) → i + 1 < cond looping loop_end end
    → (looping ≡ true → loop_end ≤ end)
    → point_at points (i + 1)
    ≡ cond (looping && (i + 1 == loop_end)) (point_at points start)
    (cond (nat_lt (i + 1) end) (point_at points (i + 1)) (pos 0))
next_point points true loop_end start end i h l =
    let g : loop_end ≤ end = l refl in
    let a : (i + 1 == loop_end) ≡ false = grind (arith, nat_tests) in
    let b : nat_lt (i + 1) end ≡ true = grind (arith, nat_tests) in rw (a, b) refl
next_point points false loop_end start end i h l =
    let b : nat_lt (i + 1) end ≡ true = grind (arith, nat_tests) in rw b refl

-- before the last point of a slice and of the loop, interpolation needs only the slice
pub straight_is : (points bytes : List ℕ) (v : VoiceParameters) (looping : Bool) (i first x : ℕ)
    → IsRunAround points i bytes first
    → (looping ≡ true → v.loop_end ≤ v.end)
    → 65536 * (i - first) ≤ x → x / 65536 + 1 < limit v looping → x / 65536 + 1 < i - first + length bytes / 2
    → straight (words bytes) (x - 65536 * (i - first)) ≡ point_of points v looping x
unfolding straight point_of follower
straight_is points bytes v looping i first x run l from last slice =
    let p = i - first in
    let f = from_first x p from in
    let le : p ≤ x / 65536 = omega arith in
    let here : point_at (words bytes) ((x - 65536 * p) / 65536) ≡ point_at points (x / 65536) =
    ap (point_at (words bytes)) f.0
    ∙ point_run points bytes i first (x / 65536 - p) (x / 65536) run (omega arith) (omega arith) in
    let next : point_at (words bytes) ((x - 65536 * p) / 65536 + 1) ≡ point_at points (x / 65536 + 1) =
    ap (λ k. point_at (words bytes) (k + 1)) f.0
    ∙ point_run points bytes i first (x / 65536 - p + 1) (x / 65536 + 1) run (omega arith) (omega arith) in
    ap (λ y. between y (point_at (words bytes) ((x - 65536 * p) / 65536 + 1)) ((x - 65536 * p) % 65536)) here
    ∙ ap (λ y. between (point_at points (x / 65536)) y ((x - 65536 * p) % 65536))
    (next ∙ next_point points looping v.loop_end v.loop_start v.end (x / 65536) last l)
    ∙ ap (between (point_at points (x / 65536)) (follower points v looping (x / 65536))) f.1

-- interpolation of a pair is interpolation in its slice
pub pair_straight : (bytes : List ℕ) (position : ℕ) → ((j : ℕ) → get_or bytes j 0 < 256)
    → 2 * (position / 65536) + 3 < length bytes
    → interpolated_pair (pair_at (words bytes) (position / 65536)) (position % 65536) ≡ straight (words bytes) position
unfolding straight point_at
pair_straight bytes position all h =
    let i = position / 65536 in
    let ws = words bytes in
    let e = word_at bytes i (omega arith) in
    let low_byte : get_or bytes (2 * i) 0 < 256 = all (2 * i) in
    let high_byte : get_or bytes (2 * i + 1) 0 < 256 = all (2 * i + 1) in
    let fits : get_or ws i 0 < 65536 = omega (arith, e) in
    let here : pair_at ws i % 65536 ≡ get_or ws i 0 = omega arith in
    let next : pair_at ws i / 65536 ≡ get_or ws (i + 1) 0 = omega arith in
    ap (λ y. between (cast_signed w16 y) (cast_signed w16 (pair_at ws i / 65536)) (position % 65536)) here
    ∙ ap (λ y. between (cast_signed w16 (get_or ws i 0)) (cast_signed w16 y) (position % 65536)) next

-- the part of a slice from the point itself on
pub run_from : (points bytes : List ℕ) (i first : ℕ) → IsRunAround points i bytes first
    → IsRunAround points i (drop (2 * first) bytes) 0
run_from points bytes i first run =
    let n = length (words bytes) in
    let m : ℕ = length (words (drop (2 * first) bytes)) in
    let begins = run.begins in
    let inside = run.inside in
    let even = run.even in
    let long = length-drop (2 * first) bytes in
    let count : n ≡ first + m =
    (let e = length-words bytes in let f = length-words (drop (2 * first) bytes) in omega (arith, e, f, long)) in
    let here : drop first (drop (i - first) points) ≡ drop i points = grind (arith, common_steps) in
    record {
      begins = omega arith;
      inside = omega (arith, long);
      even = omega (arith, long);
      run =
          words-drop (2 * first) first bytes refl ∙ ap (drop first) run.run
          ∙ ap (λ k. drop first (take k (drop (i - first) points))) count
          ∙ drop-take first m (drop (i - first) points) ∙ ap (take m) here
          ∙ ap (λ j. take m (drop j points)) (let e : i ≡ i - 0 = omega arith in e);
    }

-- a slice that contains one point in place is a slice of these points
pub is_current : (points : List ℕ) (i position : ℕ) (slice : Slice) → IsRunAround points i slice.bytes.now position
    → slice.first ≡ i - position → IsCurrentSlice points slice
is_current points i position slice run e = record {
  holds = λ k le inside.
      let begins = run.begins in
      let f : i - position ≡ k - (k - slice.first) = omega (arith, e, le, begins) in
      record {
        begins = omega arith;
        inside = omega (arith, inside);
        even = run.even;
        run = run.run ∙ ap (λ j. take (length (words slice.bytes.now)) (drop j points)) f;
      };
}

-- the empty slice is valid for any points
pub none_is_current : (points : List ℕ) (slice : Slice) → length slice.bytes.now ≡ 0 → IsCurrentSlice points slice
none_is_current points slice e = record { holds = λ k le inside. absurd (omega (arith, e, inside)) }
