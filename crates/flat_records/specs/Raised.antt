-- Indexes of generators and modulators after records before them are inserted or removed.
use Rattle.std.specs.Prelude.{◌<◌, ◌≤◌, ◌^◌, ℕ, ◌+◌, ◌-◌}

abbrev pub raised : ℕ × ℕ → ℕ × ℕ → ℕ × ℕ
raised by at = (at.0 + by.0, at.1 + by.1)

abbrev pub lowered : ℕ × ℕ → ℕ × ℕ → ℕ × ℕ
lowered by at = (at.0 - by.0, at.1 - by.1)

-- The raised indexes fit into 16 bits.
pub record CanRaise (by at : ℕ × ℕ) : Type 0 where
  pub gens : 0 < by.0 → at.0 + by.0 < 2 ^ 16
  pub mods : 0 < by.1 → at.1 + by.1 < 2 ^ 16

-- No index is less than what is subtracted.
pub record CanLower (by at : ℕ × ℕ) : Type 0 where
  pub gens : by.0 ≤ at.0
  pub mods : by.1 ≤ at.1
