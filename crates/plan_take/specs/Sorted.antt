-- Sorted numbers of presets.
use Rattle.std.specs.Prelude.{◌==◌, ◌&&◌, ℕ, Bool, List}
use Rattle.std.specs.List.{list_any}
use Rattle.std.specs.declared.cmp.Ordering.{Ordering}
use Rattle.std.specs.Ordering.{nat_cmp, ordering_then}
use Rattle.bank_parts.specs.declared.parts.Head.{Head}
use Rattle.bank_parts.specs.declared.parts.ZoneOwner.{ZoneOwner}

-- a bank number and a preset number, compared in this order
abbrev pub pair_cmp : ℕ × ℕ → ℕ × ℕ → Ordering
pair_cmp x y = ordering_then (nat_cmp x.0 y.0) (nat_cmp x.1 y.1)

-- the two numbers of a preset
abbrev pub pair_of : ZoneOwner Head → ℕ × ℕ
pair_of p = (p.head.bank, p.head.number)

-- the two numbers are in a list
abbrev pub has_pair : List (ℕ × ℕ) → ℕ → ℕ → Bool
has_pair pairs bank number = list_any (λ (x : ℕ × ℕ). x.0 == bank && x.1 == number) pairs
