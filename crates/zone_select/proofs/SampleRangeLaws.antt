-- The loop of a voice, and the ranges of its parameters.
use Rattle.std.proofs.Common.{◌≡◌, ◌≤◌, ◌<◌, ◌/◌, ◌%◌, ◌+◌, ◌*◌, ℕ, ℤ, pos, negsuc, ◌+ℤ◌, ◌≤ℤ◌, Bool, true, false}
use Rattle.std.proofs.Common.{cond, ◌&&◌, length, Option, Some, None, slice_get, unwrap_or, IfSome, min, max, refl}
use Rattle.std.proofs.Common.{sym, ap, arith}
use Rattle.std.specs.Prelude.{int_le, int_lt}
use Rattle.std.specs.Int.{int_min, int_max}
use Rattle.std.specs.Option.{option_map, option_and_then, is_some}
use Rattle.std.proofs.lemmas.Bool.{leb-true, ltb-true, false≢true}
use Rattle.std.proofs.lemmas.Int.{ints, clamps}
use Rattle.std.proofs.lemmas.Nat.{mod_below, div-add-mod'}
use Rattle.std.proofs.lemmas.Option.{get_or_from_slice_get, slice_get_within}
use Rattle.std.proofs.lemmas.List.Sums.{get_or-le-sum_by}
use Rattle.script_notes.specs.Notes.{Numbers}
use Rattle.bank_parts.specs.declared.parts.Sample.{Sample}
use Rattle.bank_parts.specs.declared.parts.Parts.{Parts}
use Rattle.bank_parts.specs.Sound.{IsSound}
use Rattle.sound_tables.specs.Floor.{clamped_at_zero}
use Rattle.sound_tables.specs.Tables.{phase_increment_at, phase_increment_of}
use Rattle.sound_tables.proofs.FloorLaws.{floor_div_is, floor_mod_is}
use Rattle.sound_tables.proofs.OctaveLaws.{step_case, step_bound}
use Rattle.zone_select.specs.ZoneSettings.{ZoneSettings}
use Rattle.zone_select.specs.Amounts.{clamped, start_of, end_of, offset, mode_has_loop, loop_start_of, loop_end_of}
use Rattle.zone_select.specs.Amounts.{is_looped, loop_of, cents_of, parameters_of}
use Rattle.zone_select.specs.Select.{voice_of}
use Rattle.zone_select.specs.Pairs.{SelectedPair, selected_pair, selected_pair_voice, voice_by}
use Rattle.zone_select.specs.Playable.{IsPlayable}
use Rattle.zone_select.proofs.LinearLaws.{above_least}

-- ---- the loop

fails : {X : Type 0} (m a b c : Bool) (x : Option X) → None ≡ cond (m && false && a && b && c) x None
fails true a b c x = refl
fails false a b c x = refl

pub no_loop : (v u : ZoneSettings) (s : Sample) → s.looped ≡ None → None ≡ loop_of v u s
unfolding loop_of is_looped
no_loop v u s e = rw e (fails (mode_has_loop v u) _ _ _ _)

pub not_asked : (v u : ZoneSettings) (s : Sample) → mode_has_loop v u ≡ false → None ≡ loop_of v u s
unfolding loop_of is_looped
not_asked v u s e = rw e refl

-- both ends, if they are in order and lie within the points that are played
abbrev pub ends_within : ℤ → ℤ → ℕ → ℕ → Option (ℕ × ℕ)
ends_within first after start end =
    cond (int_le (pos start) first && int_lt first after && int_le after (pos end))
    (Some (clamped_at_zero first, clamped_at_zero after)) None

pub loop_is : (v u : ZoneSettings) (s : Sample) (l : ℕ × ℕ) → s.looped ≡ Some l → mode_has_loop v u ≡ true
    → ends_within (pos l.0 +ℤ offset v u 2 45) (pos l.1 +ℤ offset v u 3 50) (start_of v u s) (end_of v u s)
    ≡ loop_of v u s
unfolding loop_of is_looped
loop_is v u s l e m = rw (e, m) refl

pub loop_by : (v u : ZoneSettings) (s : Sample) (l : ℕ × ℕ) (x y : ℤ) (start end : ℕ) → s.looped ≡ Some l
    → mode_has_loop v u ≡ true → x ≡ pos l.0 +ℤ offset v u 2 45 → y ≡ pos l.1 +ℤ offset v u 3 50
    → start ≡ start_of v u s → end ≡ end_of v u s → ends_within x y start end ≡ loop_of v u s
loop_by v u s l x y start end e m p q f g = rw (p, q, f, g) (loop_is v u s l e m)

some_if : {X : Type 0} (t : Bool) (x : X) → is_some (cond t (Some x) None) ≡ t
some_if true x = refl
some_if false x = refl

first_if : (t : Bool) (a b : ℕ) → (unwrap_or {T = ℕ × ℕ} (cond t (Some (a, b)) None) (0, 0)).0 ≡ cond t a 0
first_if true a b = refl
first_if false a b = refl

second_if : (t : Bool) (a b : ℕ) → (unwrap_or {T = ℕ × ℕ} (cond t (Some (a, b)) None) (0, 0)).1 ≡ cond t b 0
second_if true a b = refl
second_if false a b = refl

pub loop_there : (v u : ZoneSettings) (s : Sample) → is_some (loop_of v u s) ≡ is_looped v u s
unfolding loop_of
loop_there v u s = some_if (is_looped v u s) _

pub loop_start_is : (v u : ZoneSettings) (s : Sample)
    → (unwrap_or (loop_of v u s) (0, 0)).0 ≡ cond (is_looped v u s) (clamped_at_zero (loop_start_of v u s)) 0
unfolding loop_of
loop_start_is v u s = first_if (is_looped v u s) _ _

pub loop_end_is : (v u : ZoneSettings) (s : Sample)
    → (unwrap_or (loop_of v u s) (0, 0)).1 ≡ cond (is_looped v u s) (clamped_at_zero (loop_end_of v u s)) 0
unfolding loop_of
loop_end_is v u s = second_if (is_looped v u s) _ _

-- ---- the ranges of the parameters

below : (z : ℤ) (high : ℕ) → z ≤ℤ pos high → clamped_at_zero z ≤ high
below (pos a) high h = omega (arith, ints, h)
below (negsuc a) high h = omega arith

clamped_most : (low high : ℕ) (z : ℤ) → clamped low high z ≤ high
clamped_most low high z = below (int_min (int_max z (pos low)) (pos high)) high (omega (arith, ints, clamps))

both : (a b : Bool) → (a && b) ≡ true → (a ≡ true) × (b ≡ true)
both true b h = (refl, h)
both false b h = absurd (false≢true h)

in_order : (start end : ℕ) (p q : ℤ) → int_le (pos start) p ≡ true → int_lt p q ≡ true → int_le q (pos end) ≡ true
    → (clamped_at_zero p < clamped_at_zero q) × (clamped_at_zero q ≤ end)
in_order start end (pos a) (pos b) e f g = (ltb-true a b f, leb-true b end g)
in_order start end (pos a) (negsuc b) e f g = absurd (false≢true f)
in_order start end (negsuc a) q e f g = absurd (false≢true e)

loop_lies : (v u : ZoneSettings) (s : Sample) → is_looped v u s ≡ true
    → (clamped_at_zero (loop_start_of v u s) < clamped_at_zero (loop_end_of v u s))
    × (clamped_at_zero (loop_end_of v u s) ≤ end_of v u s)
unfolding is_looped
loop_lies v u s e =
    let last = both _ _ e in
    let middle = both _ _ last.0 in
    let first = both _ _ middle.0 in
    in_order (start_of v u s) (end_of v u s) (loop_start_of v u s) (loop_end_of v u s) first.1 middle.1 last.1

step_most : (cents : ℤ) (rate : ℕ) → phase_increment_of cents rate ≤ 73043661
step_most cents rate =
    at (int_min (int_max cents (negsuc 14399)) (pos 9600)) (min (max rate 400) 192000) (omega (arith, ints, clamps))
    (omega (arith, ints, clamps)) (omega arith)
  where
    at : (x : ℤ) (r : ℕ) → negsuc 14399 ≤ℤ x → x ≤ℤ pos 9600 → r ≤ 192000 → phase_increment_at x r ≤ 73043661
    at x r low high h =
        let up = above_least x 14400 (omega (arith, ints, low)) in
        let is : x +ℤ pos (12 * 1200) ≡ pos up.0 = up.1 in
        let few : up.0 ≤ 24000 = omega (arith, ints, is, high) in
        let d : up.0 / 1200 * 1200 + up.0 % 1200 ≡ up.0 = div-add-mod' up.0 1200 in
        let m : up.0 % 1200 < 1200 = mod_below up.0 1200 (omega arith) in
        let e =
        step_case x (up.0 / 1200) (up.0 % 1200) r (floor_div_is x 12 1200 up.0 (omega arith) is)
        (sym (floor_mod_is x 12 1200 up.0 (omega arith) is)) in
        let b = step_bound (up.0 / 1200) (up.0 % 1200) r (omega (arith, d, few)) m h in
        rw e b

pub playable : (n : Numbers) (v u : ZoneSettings) (s : Sample) → IsPlayable (length s.points) (parameters_of n v u s)
unfolding parameters_of
playable n v u s = record {
  inside = clamped_most (start_of v u s) (length s.points) _;
  ordered = λ e. rw e ((loop_lies v u s e).0);
  loop_inside = λ e. rw e ((loop_lies v u s e).1);
  phase_increment = step_most (cents_of n v u s) s.rate;
  left = omega (arith, ints, clamps);
  right = omega (arith, ints, clamps);
}

pub voices_playable : (b : Parts) (n : Numbers) (q : ℕ × ℕ)
    → IfSome (voice_by b n q) (λ v. IsPlayable (length v.points) v.parameters)
unfolding voice_of
voices_playable b n q =
    elim (selected_pair b n q) as
    (λ (o : Option SelectedPair).
    IfSome (option_and_then (selected_pair_voice b n) o) (λ v. IsPlayable (length v.points) v.parameters)) [
      | None ↦ tt
      | Some c ↦ elim (slice_get b.samples c.sample) as
          (λ (o : Option Sample).
          IfSome (option_map (voice_of n c.instrument_zone c.preset_zone) o)
          (λ v. IsPlayable (length v.points) v.parameters))
          [ None ↦ tt | Some s ↦ playable n c.instrument_zone c.preset_zone s ]
    ]

pub parameters_by : (b : Parts) (n : Numbers) (q : ℕ × ℕ) (c : SelectedPair) (s : Sample) → selected_pair b n q ≡ Some c
    → slice_get b.samples c.sample ≡ Some s
    → Some (parameters_of n c.instrument_zone c.preset_zone s) ≡ option_map (λ v. v.parameters) (voice_by b n q)
unfolding voice_of
parameters_by b n q c s e f = rw (e, f) refl

-- ---- a sample's points

pub points_few : (b : Parts) (k : ℕ) (s : Sample) → IsSound b → slice_get b.samples k ≡ Some s
    → length s.points < 4294967296
points_few b k s sound e =
    let h = get_or-le-sum_by (λ (x : Sample). length x.points + 46) b.samples k s (slice_get_within b.samples k s e) in
    let same = ap (λ (x : Sample). length x.points + 46) (get_or_from_slice_get b.samples k s s e) in
    let most = sound.valid.limits.points in
    omega (arith, h, same, most)
