use Rattle.std.proofs.Common.{◌≡◌, ◌≤◌, ◌<◌, ◌^◌, ◌+◌, ◌-◌, ◌/◌, ◌%◌, ℕ, suc, ℤ, pos, negsuc, ◌+ℤ◌, ◌-ℤ◌, unsigned_abs}
use Rattle.std.proofs.Common.{to_z, of_z, w16, w32, w64, FitsSigned, ap, ◌∙◌, rules, arith}
use Rattle.std.proofs.lemmas.Bool.{le-ltb}
use Rattle.std.proofs.lemmas.Int.{ints}
use Rattle.std.specs.Int.{is_negative, from_bool}
use Rattle.std.specs.Prelude.{min}
use Rattle.pcm_points.specs.Points.{nearest, rounded}
use Rattle.pcm_points.specs.Dither.{triangular, fraction_of_units, dithered_point}
use Rattle.pcm_points.proofs.OffsetLaws.{up, down}
use Rattle.pcm_points.proofs.dither.dithered_point.Goals as goal

sum_is : (word : ℕ) (units u high low : ℤ) → word < 2 ^ 32 → FitsSigned w32 units → u ≡ to_z w32 (of_z w32 units)
    → high ≡ pos (word / 2 ^ 16) → low ≡ pos (word % 2 ^ 16)
    → to_z w64
    (of_z w64 (to_z w64 (of_z w64 u) +ℤ to_z w64 (of_z w64 (to_z w64 (of_z w64 high) -ℤ to_z w64 (of_z w64 low)))))
    ≡ units +ℤ triangular word
sum_is word units u high low h fits e f g = omega (arith, ints, h, fits, e, f, g)

-- the offset from two points below the least point, in units
abbrev offset_of : ℤ → ℕ
offset_of sum = unsigned_abs (to_z w64 (of_z w64 (sum +ℤ pos 0x80020000)))

-- the point whose word the offset gives, rounded up, below zero down
offset_word : (sum : ℤ) → unsigned_abs sum ≤ 2 ^ 31 + 65535
    → to_z w16
    ((min ((offset_of sum + 32768 - from_bool (is_negative sum)) / 65536 - 2) 65535 + 32768) % 65536)
    ≡ rounded 16 (fraction_of_units sum)
offset_word (pos a) h =
    rw (le-ltb a 0 (omega arith))
    (up _ (min (nearest a 65536) 32767) (omega arith)
    (let offset : offset_of (pos a) ≡ a + 0x80020000 = omega (arith, ints, h) in omega (arith, offset)))
offset_word (negsuc a) h =
    down _ (min (nearest (suc a) 65536) 32768) (omega arith)
    (let offset : offset_of (negsuc a) ≡ 0x80020000 - suc a = omega (arith, ints, h) in omega (arith, offset))

pub returns : goal.returns
returns c =
    let word = c.args.word in
    let units = c.args.units in
    let total =
    sum_is word units c.from-3.result c.from.result c.from-2.result c.ranges.word.fits c.ranges.units c.from-3.ensures
    c.from.ensures c.from-2.ensures in
    let below = c.from-is_below.ensures ∙ ap (λ (z : ℤ). from_bool (is_negative z)) total in
    let clipped : c.min-clipped.result
    ≡ min
    ((offset_of (units +ℤ triangular word) + 32768 - from_bool (is_negative (units +ℤ triangular word))) / 65536 - 2)
    65535 =
    c.min-clipped.ensures
    ∙ ap (λ (n : ℕ). min n 65535) c.saturating_sub.ensures
    ∙ (λ i. min ((offset_of (total i) + 32768 - below i) / 65536 - 2) 65535) in
    let near : unsigned_abs (units +ℤ triangular word) ≤ 2 ^ 31 + 65535 =
    let fits = c.ranges.units in let bound = c.ranges.word.fits in omega (arith, ints, fits, bound) in
    let point : c.cast_signed.result ≡ dithered_point word units =
    c.cast_signed.ensures
    ∙ ap (λ (n : ℕ). to_z w16 ((n + 32768) % 65536)) clipped
    ∙ offset_word (units +ℤ triangular word) near in
    search (rules, point)
