use Rattle.std.proofs.Common.{◌≡◌, ℕ, ◌+◌, ◌-◌, ◌*◌, ◌/◌, ◌%◌, ◌^◌, ◌<◌, suc, ℤ, pos, negsuc, ◌+ℤ◌, sym, ◌∙◌, ap, arith}
use Rattle.std.proofs.lemmas.Nat.{div-mul-add, mod-mul-add, pow-add, div-add-mod', mod_below, div_below, pow_pos}
use Rattle.std.proofs.Math.Nat.{mul-lt-mul_of_pos_right, mul-pos}
use Rattle.std.proofs.lemmas.Int.{ints}
use Rattle.sound_tables.specs.Floor.{floor_div, floor_mod, scaled}

-- Uniqueness of quotient and remainder.
pub div_is : (m n q r : ℕ) → r < n → m ≡ q * n + r → m / n ≡ q
div_is m n q r h e = ap (λ x. x / n) e ∙ div-mul-add q n r h

pub mod_is : (m n q r : ℕ) → r < n → m ≡ q * n + r → m % n ≡ r
mod_is m n q r h e = ap (λ x. x % n) e ∙ mod-mul-add q n r h

under_sum : (a k n m j : ℕ) → 0 < n → k ≡ suc (a / n) + j → m + suc a ≡ k * n → m ≡ j * n + (n - 1 - a % n)
under_sum a k n m j h e f =
    let d : a / n * n + a % n ≡ a = div-add-mod' a n in
    let b : a % n < n = mod_below a n h in
    let g : k * n ≡ (suc (a / n) + j) * n = ap (λ x. x * n) e in
    omega arith

under_is : (a k n m j : ℕ) → 0 < n → k ≡ suc (a / n) + j → m + suc a ≡ k * n → m / n ≡ j
under_is a k n m j h e f =
    let b : a % n < n = mod_below a n h in
    div_is m n j (n - 1 - a % n) (omega arith) (under_sum a k n m j h e f)

under_mod : (a k n m j : ℕ) → 0 < n → k ≡ suc (a / n) + j → m + suc a ≡ k * n → m % n ≡ n - 1 - a % n
under_mod a k n m j h e f =
    let b : a % n < n = mod_below a n h in
    mod_is m n j (n - 1 - a % n) (omega arith) (under_sum a k n m j h e f)

-- The floor quotient of a number raised by k divisors.
pub floor_div_is : (z : ℤ) (k n m : ℕ) → 0 < n → z +ℤ pos (k * n) ≡ pos m → floor_div z n +ℤ pos k ≡ pos (m / n)
floor_div_is (pos a) k n m h e =
    let d : a / n * n + a % n ≡ a = div-add-mod' a n in
    let f : m ≡ a + k * n = omega (arith, ints, e) in
    let b : a % n < n = mod_below a n h in
    let g : m / n ≡ a / n + k = div_is m n (a / n + k) (a % n) b (omega arith) in
    omega (arith, ints)
floor_div_is (negsuc a) k n m h e =
    let f : m + suc a ≡ k * n = omega (arith, ints, e) in
    let below : a / n < k = div_below a n k h (omega arith) in
    let g : m / n ≡ k - suc (a / n) = under_is a k n m (k - suc (a / n)) h (omega arith) f in
    omega (arith, ints)

pub floor_mod_is : (z : ℤ) (k n m : ℕ) → 0 < n → z +ℤ pos (k * n) ≡ pos m → floor_mod z n ≡ m % n
floor_mod_is (pos a) k n m h e =
    let d : a / n * n + a % n ≡ a = div-add-mod' a n in
    let f : m ≡ a + k * n = omega (arith, ints, e) in
    sym (mod_is m n (a / n + k) (a % n) (mod_below a n h) (omega arith))
floor_mod_is (negsuc a) k n m h e =
    let f : m + suc a ≡ k * n = omega (arith, ints, e) in
    let below : a / n < k = div_below a n k h (omega arith) in
    sym (under_mod a k n m (k - suc (a / n)) h (omega arith) f)

div_scaled : (a d b : ℕ) → 0 < d → 0 < b → a * b / (d * b) ≡ a / d
div_scaled a d b h g =
    let e : a / d * d + a % d ≡ a = div-add-mod' a d in
    let f : a % d * b < d * b = mul-lt-mul_of_pos_right (mod_below a d h) g in
    div_is (a * b) (d * b) (a / d) (a % d * b) f
    (ap (λ x. x * b) (sym e) ∙ omega arith)

-- A negative power divides, so both sides are raised by `bias` octaves.
pub scaled_is : (m d k bias : ℕ) (octaves : ℤ) → 0 < d → octaves +ℤ pos bias ≡ pos k
    → scaled m octaves d ≡ m * 2 ^ k / (d * 2 ^ bias)
scaled_is m d k bias (pos j) h e =
    let f : k ≡ j + bias = omega (arith, ints, e) in
    sym (ap (λ x. m * 2 ^ x / (d * 2 ^ bias)) f ∙ ap (λ x. m * x / (d * 2 ^ bias)) (pow-add 2 j bias)
    ∙ ap (λ x. x / (d * 2 ^ bias)) (omega arith)
    ∙ div_scaled (m * 2 ^ j) d (2 ^ bias) h (pow_pos bias))
scaled_is m d k bias (negsuc j) h e =
    let f : bias ≡ suc j + k = omega (arith, ints, e) in
    sym (ap (λ x. m * 2 ^ k / (d * 2 ^ x)) f ∙ ap (λ x. m * 2 ^ k / (d * x)) (pow-add 2 (suc j) k)
    ∙ ap (λ x. m * 2 ^ k / x) (omega arith)
    ∙ div_scaled m (d * 2 ^ suc j) (2 ^ k) (mul-pos h (pow_pos (suc j))) (pow_pos k)
    ∙ ap (λ x. m / (d * 2 ^ x)) (omega arith))
