-- The attenuation of a velocity, found by bisection.
use Rattle.std.proofs.Common.{◌≡◌, ◌≤◌, ◌<◌, ◌+◌, ◌*◌, min, ℕ, true, false, get_or, length, sym, ap, subst, ◌∙◌, arith}
use Rattle.std.specs.List.{position_or_len, range_with_len}
use Rattle.std.proofs.lemmas.Bool.Decides.{nat_tests}
use Rattle.std.proofs.lemmas.List.FromFn.{get_or-range_with_len, length-range_with_len}
use Rattle.std.proofs.lemmas.List.Sums.{position_or_len_is}
use Rattle.sound_tables.specs.Tables.{gain_at, is_as_quiet, velocity_attenuation_of, IsVelocityAttenuation}
use Rattle.sound_tables.proofs.GainLaws.{gain_falls, gain_at_end}

-- Nothing below the lower bound is as quiet, and the upper bound is.
pub record IsBetween (square low high : ℕ) : Type 0 where
  pub ordered : low ≤ high
  pub within : high ≤ 960
  pub quiet : gain_at high * 16129 ≤ square
  pub least : (b : ℕ) → b < low → square < gain_at b * 16129

pub all_between : (square : ℕ) → IsBetween square 0 960
all_between square = record {
  ordered = omega arith;
  within = omega arith;
  quiet = let e : gain_at 960 ≡ 0 = gain_at_end in omega (arith, e);
  least = λ b h. absurd (omega arith);
}

pub quieter : (square low middle high : ℕ) → IsBetween square low high → low ≤ middle → middle < high
    → gain_at middle * 16129 ≤ square → IsBetween square low middle
quieter square low middle high h l u q = record {
  ordered = l;
  within = let w = h.within in omega arith;
  quiet = q;
  least = h.least;
}

pub louder : (square low middle high : ℕ) → IsBetween square low high → low ≤ middle → middle < high
    → square < gain_at middle * 16129 → IsBetween square (middle + 1) high
louder square low middle high h l u q = record {
  ordered = omega arith;
  within = h.within;
  quiet = h.quiet;
  least =
      λ b k. let w =
      h.within in let f : gain_at middle ≤ gain_at b =
      gain_falls b middle (omega arith) (omega arith) in omega arith;
}

pub found : (part low high : ℕ) → IsBetween (part * part * 65536) low high → high ≤ low → IsVelocityAttenuation part low
found part low high h u =
    let o = h.ordered in
    let e : high ≡ low = omega arith in
    record {
      within = let w = h.within in omega arith;
      quiet = subst (λ x. gain_at x * 16129 ≤ part * part * 65536) e h.quiet;
      least = h.least;
    }

at_number : (part a : ℕ) → a < 960 → is_as_quiet part (get_or (range_with_len 0 960) a 0) ≡ is_as_quiet part a
at_number part a h = ap (is_as_quiet part) (get_or-range_with_len 0 960 a 0 h ∙ omega arith)

is_loud : (part a : ℕ) → part * part * 65536 < gain_at a * 16129 → is_as_quiet part a ≡ false
is_loud part a h = grind (arith, nat_tests)

is_quiet : (part a : ℕ) → gain_at a * 16129 ≤ part * part * 65536 → is_as_quiet part a ≡ true
is_quiet part a h = grind (arith, nat_tests)

first_is : (part a : ℕ) → IsVelocityAttenuation part a → position_or_len (is_as_quiet part) (range_with_len 0 960) ≡ a
first_is part a h =
    let w = h.within in
    let n : length (range_with_len 0 960) ≡ 960 = length-range_with_len 0 960 in
    position_or_len_is (is_as_quiet part) (range_with_len 0 960) a 0 (omega (arith, n, w))
    (λ b k. at_number part b (omega (arith, w)) ∙ is_loud part b (h.least b k))
    (λ k. at_number part a (omega (arith, n)) ∙ is_quiet part a h.quiet)

pub velocity_attenuation_is : (velocity a : ℕ) → IsVelocityAttenuation (min velocity 127) a
    → a ≡ velocity_attenuation_of velocity
unfolding velocity_attenuation_of
velocity_attenuation_is velocity a h = sym (first_is (min velocity 127) a h)
