-- Rounding by offsets from the least number.
use Rattle.std.proofs.Common.{◌≡◌, ◌≤◌, ◌<◌, ◌+◌, ◌-◌, ◌*◌, ◌/◌, ℕ, pos, neg_ℤ, true, false, cond, ltb}
use Rattle.std.proofs.Common.{zero, suc, ◌%◌, refl, ap, sym, ◌∙◌, inl, inr, arith}
use Rattle.std.specs.Int.{w16, cast_signed, from_bool}
use Rattle.std.proofs.lemmas.Bool.{cases_lt, lt-ltb, le-ltb}
use Rattle.std.proofs.Math.Nat.{add-mul-div_left, add-mul, div-eq_of_lt-le, div-mul-le_self, lt-div-mul-add}
use Rattle.std.proofs.Math.Nat.{le-div_iff_mul-le, mod-eq_of_lt, add-mul-mod_self_left}
use Rattle.std.specs.Prelude.{min}
use Rattle.pcm_points.specs.Points.{nearest, point_of}

-- a number that isn't negative
offset_up : (d h n : ℕ) → d ≡ 2 * h → 0 < h
    → (131072 * (n + h) + d) / (2 * d) ≡ nearest (65536 * n) d + 32768
offset_up d h n e some =
    let sum : 131072 * (n + h) + d ≡ (2 * (65536 * n) + d) + 2 * d * 32768 = omega (arith, e) in
    ap (λ (m : ℕ). m / (2 * d)) sum
    ∙ add-mul-div_left (2 * (65536 * n) + d) 32768 {y = 2 * d} (omega (arith, e, some))

-- the magnitude m of a negative number
nearest-le : (d h m : ℕ) → d ≡ 2 * h → 0 < h → m ≤ h → nearest (65536 * m) d ≤ 32768
nearest-le d h m e some le = elim (cases_lt 32768 (nearest (65536 * m) d)) [
  | inr short ↦ short
  | inl long ↦ (
      let most : 32769 * (2 * d) ≤ 2 * (65536 * m) + d =
      (le-div_iff_mul-le {k = 2 * d} {x = 32769} {y = 2 * (65536 * m) + d} (omega (arith, e, some))).0
      (omega (arith, long)) in
      absurd (omega (arith, e, le, some, most)))
]

offset_down : (d h m : ℕ) → d ≡ 2 * h → 0 < h → 0 < m → m ≤ h
    → (131072 * (h - m) + d - 1) / (2 * d) ≡ 32768 - nearest (65536 * m) d
offset_down d h m e some more le =
    let n = nearest (65536 * m) d in
    let k = 32768 - n in
    let most : n ≤ 32768 = nearest-le d h m e some le in
    let whole : k + n ≡ 32768 = omega (arith, most) in
    let product : 32768 * (2 * d) ≡ k * (2 * d) + n * (2 * d) =
    ap (λ (x : ℕ). x * (2 * d)) (sym whole) ∙ add-mul k n (2 * d) in
    let next : (k + 1) * (2 * d) ≡ k * (2 * d) + 1 * (2 * d) = add-mul k 1 (2 * d) in
    let low : n * (2 * d) ≤ 2 * (65536 * m) + d = div-mul-le_self (2 * (65536 * m) + d) (2 * d) in
    let high : 2 * (65536 * m) + d < n * (2 * d) + 2 * d =
    lt-div-mul-add {a = 2 * (65536 * m) + d} {b = 2 * d} (omega (arith, e, some)) in
    div-eq_of_lt-le {k = k} (2 * d) {m = 131072 * (h - m) + d - 1}
    (omega (arith, e, some, more, le, product, low, high))
    (omega (arith, e, some, more, le, product, next, low, high))

-- ---- the words

pub up : (r p : ℕ) → p ≤ 32767 → r ≡ p + 32768 → cast_signed w16 ((r + 32768) % 65536) ≡ pos p
up r p le e =
    let word : (r + 32768) % 65536 ≡ p = omega (arith, le, e) in
    rw (word, lt-ltb p 32768 (omega (arith, le))) refl

pub down : (r q : ℕ) → q ≤ 32768 → r ≡ 32768 - q → cast_signed w16 ((r + 32768) % 65536) ≡ neg_ℤ (pos q)
down r zero le e = let word : (r + 32768) % 65536 ≡ 0 = omega (arith, e) in rw word refl
down r (suc q) le e =
    let word : (r + 32768) % 65536 ≡ 65535 - q = omega (arith, le, e) in
    let back : 65536 - suc (65535 - q) ≡ q = omega (arith, le) in
    rw (word, le-ltb (65535 - q) 32768 (omega (arith, le)), back) refl

-- ---- a number of some bits

module _ (n d h r : ℕ) (even : d ≡ 2 * h) (some : 0 < h) (small : n < d) where
  abbrev offset : ℕ
  offset = (n + h) % d

  -- the offset of a number that isn't negative
  offset-up : 2 * n < d → offset ≡ n + h
  offset-up low = mod-eq_of_lt (omega (arith, even, low))

  offset-down : d ≤ 2 * n → offset ≡ h - (d - n)
  offset-down high =
      let sum : n + h ≡ (h - (d - n)) + d * 1 = omega (arith, even, high, small) in
      ap (λ (x : ℕ). x % d) sum ∙ add-mul-mod_self_left (h - (d - n)) d 1 ∙ mod-eq_of_lt (omega (arith, even, some))

  -- The word of the offset rounded, where a half goes up, but down below zero.
  pub offset_point : (below : ℕ) → below ≡ from_bool (ltb offset h)
      → r ≡ min ((131072 * offset + d - below) / (2 * d)) 65535
      → cast_signed w16 ((r + 32768) % 65536)
      ≡ point_of
      (cond (ltb (2 * n) d) (record { is_negative = false; numerator = 65536 * n; denominator = d })
      (record { is_negative = true; numerator = 65536 * (d - n); denominator = d }))
  offset_point below is rounded = elim (cases_lt (2 * n) d) [
    | inl low ↦ (
        let at = offset-up low in
        let not_below : below ≡ 0 = is ∙ ap from_bool (le-ltb offset h (omega (arith, at))) in
        let none : 131072 * (n + h) + d - 0 ≡ 131072 * (n + h) + d = omega arith in
        let value : r ≡ min (nearest (65536 * n) d + 32768) 65535 =
        rounded
        ∙ (λ i. min ((131072 * at i + d - not_below i) / (2 * d)) 65535)
        ∙ ap (λ (x : ℕ). min (x / (2 * d)) 65535) none
        ∙ ap (λ (x : ℕ). min x 65535) (offset_up d h n even some) in
        rw (lt-ltb (2 * n) d low)
        (up r (min (nearest (65536 * n) d) 32767) (omega arith) (omega (arith, value))))
    | inr high ↦ (
        let at = offset-down high in
        let is_below : below ≡ 1 = is ∙ ap from_bool (lt-ltb offset h (omega (arith, at, even, some, small))) in
        let most = nearest-le d h (d - n) even some (omega (arith, even, high)) in
        let value : r ≡ min (32768 - nearest (65536 * (d - n)) d) 65535 =
        rounded
        ∙ (λ i. min ((131072 * at i + d - is_below i) / (2 * d)) 65535)
        ∙ ap (λ (x : ℕ). min x 65535)
        (offset_down d h (d - n) even some (omega (arith, small)) (omega (arith, even, high))) in
        let all : min (nearest (65536 * (d - n)) d) 32768 ≡ nearest (65536 * (d - n)) d = omega (arith, most) in
        rw (le-ltb (2 * n) d high, all)
        (down r (nearest (65536 * (d - n)) d) most (omega (arith, value))))
  ]
