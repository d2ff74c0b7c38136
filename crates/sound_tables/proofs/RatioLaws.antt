-- Ratios are between one and two, and rise with the interval.
use Rattle.std.proofs.Common.{◌≡◌, ◌≤◌, ◌+◌, ℕ, true, refl, arith}
use Rattle.std.specs.Prelude.{nat_le}
use Rattle.std.proofs.lemmas.Bool.{agree_below}
use Rattle.sound_tables.specs.Tables.{ratio}
use Rattle.sound_tables.proofs.Rising.{at_each, never_falls}

rises : agree_below (λ k. nat_le (ratio k) (ratio (k + 1))) (λ _. true) 1200 ≡ true
unfolding ratio
rises = refl

pub ratio_rises : (a b : ℕ) → a ≤ b → b ≤ 1200 → ratio a ≤ ratio b
ratio_rises a b h l = never_falls ratio 1200 (at_each ratio (λ k. ratio (k + 1)) 1200 rises) a b h l

pub ratio_least : (cents : ℕ) → cents ≤ 1200 → 65536 ≤ ratio cents
unfolding ratio
ratio_least cents h = ratio_rises 0 cents (omega arith) h

pub ratio_most : (cents : ℕ) → cents ≤ 1200 → ratio cents ≤ 131072
unfolding ratio
ratio_most cents h = ratio_rises cents 1200 h (omega arith)
