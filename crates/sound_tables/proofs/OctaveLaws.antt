-- Numbers scaled by octaves fit their types; their maxima.
use Rattle.std.proofs.Common.{◌≡◌, ℕ, ◌+◌, ◌*◌, ◌/◌, ◌%◌, ◌^◌, ◌<◌, ◌≤◌, suc, ℤ, pos, ◌+ℤ◌, sym, ◌∙◌, ap, subst}
use Rattle.std.proofs.Common.{arith, lit<, ⊎_elim}
use Rattle.std.proofs.Math.Nat.{pow-le-pow_right}
use Rattle.std.proofs.lemmas.Nat.{shl_whole, div_below, mul-le}
use Rattle.std.proofs.lemmas.Bool.{cases_eq}
use Rattle.sound_tables.specs.Floor.{floor_div, floor_mod}
use Rattle.sound_tables.specs.Tables.{ratio, frames_at, phase_increment_at}
use Rattle.sound_tables.proofs.FloorLaws.{scaled_is}
use Rattle.sound_tables.proofs.RatioLaws.{ratio_rises, ratio_most}

powers_rise : (a b : ℕ) → a ≤ b → 2 ^ a ≤ 2 ^ b
powers_rise a b h = pow-le-pow_right {n = 2} (lit< tt) h

pub shifted : (m o by : ℕ) → m < by * 16777216 → by ≤ 65536 → o ≤ 20 → (m * 2 ^ o) % 18446744073709551616 ≡ m * 2 ^ o
shifted m o by h g k = shl_whole m 40 o 64 (omega arith) (omega arith)

-- The quotient of a smaller product is not larger.
less_scaled : (m o d n p most : ℕ) → 0 < d → m ≤ n → o ≤ p → n * 2 ^ p < suc most * d → m * 2 ^ o / d ≤ most
less_scaled m o d n p most z h k u =
    let e : m * 2 ^ o ≤ n * 2 ^ p = mul-le m (2 ^ o) n (2 ^ p) h (powers_rise o p k) in
    let f : m * 2 ^ o / d < suc most = div_below (m * 2 ^ o) d (suc most) z (omega arith) in
    omega arith

pub scaled_fits : (m o by : ℕ) → 0 < by → m < by * 16777216 → o ≤ 20 → m * 2 ^ o / (by * 4096) < 4294967296
scaled_fits m o by p h k =
    let e : m * 2 ^ o ≤ m * 1048576 = mul-le m (2 ^ o) m 1048576 (omega arith) (powers_rise o 20 k) in
    div_below (m * 2 ^ o) (by * 4096) 4294967296 (omega arith) (omega arith)

pub frames_case : (x : ℤ) (o r : ℕ) → floor_div x 1200 +ℤ pos 12 ≡ pos o → r ≡ floor_mod x 1200
    → frames_at x ≡ 44100 * ratio r * 2 ^ o / (65536 * 4096)
unfolding frames_at
frames_case x o r e f =
    scaled_is (44100 * ratio (floor_mod x 1200)) 65536 o 12 (floor_div x 1200) (omega arith) e
    ∙ ap (λ y. 44100 * ratio y * 2 ^ o / (65536 * 4096)) (sym f)

pub step_case : (x : ℤ) (o r rate : ℕ) → floor_div x 1200 +ℤ pos 12 ≡ pos o → r ≡ floor_mod x 1200
    → phase_increment_at x rate ≡ ratio r * rate * 2 ^ o / (44100 * 4096)
unfolding phase_increment_at
step_case x o r rate e f =
    scaled_is (ratio (floor_mod x 1200) * rate) 44100 o 12 (floor_div x 1200) (omega arith) e
    ∙ ap (λ y. ratio y * rate * 2 ^ o / (44100 * 4096)) (sym f)

-- A time of 8000 timecents has the most frames.
frames_below : (o r : ℕ) → o ≤ 17 → r < 1200 → 44100 * ratio r * 2 ^ o / (65536 * 4096) ≤ 4480284
frames_below o r h l =
    let m : ratio r ≤ 131072 = ratio_most r (omega arith) in
    less_scaled (44100 * ratio r) o (65536 * 4096) (44100 * 131072) 17 4480284 (lit< tt) (omega arith) h (lit< tt)

frames_end : (r : ℕ) → r ≤ 800 → 44100 * ratio r * 2 ^ 18 / (65536 * 4096) ≤ 4480284
unfolding ratio
frames_end r h =
    let m : ratio r ≤ 104032 = ratio_rises r 800 h (omega arith) in
    less_scaled (44100 * ratio r) 18 (65536 * 4096) (44100 * 104032) 18 4480284 (lit< tt) (omega arith) (omega arith)
    (lit< tt)

pub frames_bound : (o r : ℕ) → 1200 * o + r ≤ 22400 → r < 1200 → 44100 * ratio r * 2 ^ o / (65536 * 4096) ≤ 4480284
frames_bound o r h l = ⊎_elim
    (λ e. subst (λ x. 44100 * ratio r * 2 ^ x / (65536 * 4096) ≤ 4480284) (sym e) (frames_end r (omega (arith, e))))
    (λ apart. frames_below o r (omega (arith, apart)) l)
    (cases_eq o 18)

-- Eight octaves and the highest rate give the largest phase increment.
step_below : (o r rate : ℕ) → o ≤ 19 → r < 1200 → rate ≤ 192000 → ratio r * rate * 2 ^ o / (44100 * 4096) ≤ 73043661
step_below o r rate h l k =
    let m : ratio r * rate ≤ 131072 * 192000 = mul-le (ratio r) rate 131072 192000 (ratio_most r (omega arith)) k in
    less_scaled (ratio r * rate) o (44100 * 4096) (131072 * 192000) 19 73043661 (lit< tt) m h (lit< tt)

step_end : (rate : ℕ) → rate ≤ 192000 → ratio 0 * rate * 2 ^ 20 / (44100 * 4096) ≤ 73043661
unfolding ratio
step_end rate k =
    less_scaled (65536 * rate) 20 (44100 * 4096) (65536 * 192000) 20 73043661 (lit< tt) (omega arith) (omega arith)
    (lit< tt)

pub step_bound : (o r rate : ℕ) → 1200 * o + r ≤ 24000 → r < 1200 → rate ≤ 192000
    → ratio r * rate * 2 ^ o / (44100 * 4096) ≤ 73043661
step_bound o r rate h l k = ⊎_elim
    (λ e. let z : r ≡ 0 = omega (arith, e) in
    subst (λ x. ratio r * rate * 2 ^ x / (44100 * 4096) ≤ 73043661) (sym e)
    (subst (λ x. ratio x * rate * 2 ^ 20 / (44100 * 4096) ≤ 73043661) (sym z) (step_end rate k)))
    (λ apart. step_below o r rate (omega (arith, apart)) l k)
    (cases_eq o 20)
