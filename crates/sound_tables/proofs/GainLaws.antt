-- The gain falls as the attenuation grows.
use Rattle.std.proofs.Common.{◌≡◌, ◌≤◌, ◌+◌, ℕ, true, refl}
use Rattle.std.specs.Prelude.{nat_le}
use Rattle.std.proofs.lemmas.Bool.{agree_below}
use Rattle.sound_tables.specs.Tables.{ratio, gain_at}
use Rattle.sound_tables.proofs.Rising.{at_each, never_rises}

falls : agree_below (λ k. nat_le (gain_at (k + 1)) (gain_at k)) (λ _. true) 960 ≡ true
unfolding ratio gain_at
falls = refl

pub gain_falls : (a b : ℕ) → a ≤ b → b ≤ 960 → gain_at b ≤ gain_at a
gain_falls a b h l = never_rises gain_at 960 (at_each (λ k. gain_at (k + 1)) gain_at 960 falls) a b h l

pub gain_at_end : gain_at 960 ≡ 0
unfolding gain_at
gain_at_end = refl
