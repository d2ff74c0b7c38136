-- Generators of one operator whose amounts are numbers of a list's members, after a change of the list.
use Rattle.std.specs.Prelude.{◌≡◌, ◌<◌, ◌-◌, ◌^◌, ◌==◌, ℕ, true, false, if◌then◌else◌, length, map, take, All}
use Rattle.base_numbered_lists.specs.declared.renumbering.Renumbering.{Renumbering}
use Rattle.base_numbered_lists.specs.Renumbered.{renumbered}
use Rattle.flat_records.specs.Bags.{Bag, with_gens}

abbrev pub gen_renumbered : ℕ → Renumbering → ℕ × ℕ → ℕ × ℕ
gen_renumbered op by e = if e.0 == op then (e.0, renumbered by e.1) else e

abbrev pub bag_renumbered : ℕ → Renumbering → Bag → Bag
bag_renumbered op by b = with_gens (map (gen_renumbered op by) b.gens) b

-- The renumbered amount fits into 16 bits.
abbrev pub CanRenumber : ℕ → Renumbering → ℕ × ℕ → Type 0
CanRenumber op by e = (e.0 == op) ≡ true → renumbered by e.1 < 2 ^ 16

-- No generator before the last one has the operator.
abbrev pub IsOnlyLast : ℕ → Bag → Type 0
IsOnlyLast op b = All (λ e. (e.0 == op) ≡ false) (take (length b.gens - 1) b.gens)

-- The bag's generators can be renumbered, by its last one alone.
pub record CanRenumberBag (op : ℕ) (by : Renumbering) (b : Bag) : Type 0 where
  pub numbers : All (CanRenumber op by) b.gens
  pub last : IsOnlyLast op b
