-- 16-bit values as floats.
use Rattle.std.proofs.Common.{◌≡◌, ◌*◌, ◌^◌, ◌≤◌, ℕ, suc, pos, negsuc, Bool, true, false, refl, ap, subst, sym, ◌∙◌, arith}
use Rattle.std.specs.Float.{Float, binary32, fin, inf, nan}
use Rattle.std.specs.Float.Ieee
use lib.Ieee.{of_bits, round, mul, of_int, up, down, unlike}
use lib.Ieee.Back.{round_whole}
use lib.Ieee.Exact.{HasValue, round_exact}
use lib.Ieee.Fits.{down_pos}
use lib.Ieee.Scale.{round_same}
use native.Mathlib.Nat.{mul-pos}
use Rattle.sfbank_c.specs.Floats.{scaled, ScaledIsExact}

pub step_is : Ieee.of_bits binary32 0x38000000 ≡ fin false 1 (negsuc 14)
unfolding of_bits
step_is = refl

same_size : (a n d : ℕ) → a * 1 ≡ n * d → 1 * 1 * a * 32768 ≡ n * (32768 * d)
same_size a n d h = omega (arith, h)

same_sign : (t : Bool) → unlike false t ≡ t
same_sign true = refl
same_sign false = refl

times_step : (x : Float) (s : Bool) (n : ℕ) → HasValue x s n 1
    → mul binary32 (fin false 1 (negsuc 14)) x ≡ round binary32 s n 32768
unfolding mul
times_step nan s n h = absurd h
times_step (inf t) s n h = absurd h
times_step (fin t m e) s n h =
    ap (λ (b : Bool). round binary32 b (1 * 1 * (m * up e)) (32768 * down e)) (same_sign t ∙ h.0)
    ∙ round_same binary32 s (1 * 1 * (m * up e)) (32768 * down e) n 32768 (mul-pos (omega arith) (down_pos e)) (omega arith)
    (same_size (m * up e) n (down e) h.1)

quotient : (s : Bool) (n : ℕ) → n ≤ 2 ^ 15 → HasValue (round binary32 s n 32768) s n 32768
quotient s n h = round_exact binary32 s n 32768 n 134 (omega arith) (omega (arith, h)) (omega (arith, h)) (omega arith)

pub scaled_is_exact : ScaledIsExact
unfolding scaled of_int
scaled_is_exact (pos n) h =
    let P : Float → Type 0 = λ x. HasValue x false n 32768 in
    subst P (sym (times_step (Ieee.of_int binary32 (pos n)) false n (round_whole binary32 false n (omega (arith, h)))))
    (quotient false n (omega (arith, h)))
scaled_is_exact (negsuc n) h =
    let P : Float → Type 0 = λ x. HasValue x true (suc n) 32768 in
    subst P
    (sym (times_step (Ieee.of_int binary32 (negsuc n)) true (suc n) (round_whole binary32 true (suc n) (omega (arith, h)))))
    (quotient true (suc n) (omega (arith, h)))
