-- Which bags are those of presets or instruments. `op` is the operator of targets.
use Rattle.std.specs.Prelude.{◌≡◌, ℕ, ◌+◌, ◌==◌, ◌&&◌, not, if◌then◌else◌, Bool, IsTrue, List, length, Some}
use Rattle.std.specs.List.{list_any}
use Rattle.std.specs.FinMap.{is_sorted}
use Rattle.generators.specs.Gens.{operator_cmp}
use Rattle.flat_records.specs.Bags.{Bag}
use Rattle.flat_records.specs.Owned.{bag_at}
use Rattle.bank_parts.specs.Bagged.{ends_in, without_last}

-- the sorted entries of a map without a target
abbrev pub is_plain : ℕ → List (ℕ × ℕ) → Bool
is_plain op es = is_sorted operator_cmp es && not (list_any (λ (e : ℕ × ℕ). e.0 == op) es)

-- a bag with a target is that of a zone; a bag without one is that of a global zone: it is the first and not empty
abbrev pub is_own_bag : ℕ → Bool → Bag → Bool
is_own_bag op is_first b =
    if ends_in op b.gens
    then is_plain op (without_last b.gens)
    else ((is_first && not (length b.gens + length b.mods == 0)) && is_plain op b.gens)

-- each bag of owner i is such a bag
abbrev pub AreOwnBags : ℕ → List (List Bag) → ℕ → Type 0
AreOwnBags op bags i = (k : ℕ) (b : Bag) → bag_at bags i k ≡ Some b → IsTrue (is_own_bag op (k == 0) b)

-- each bag of every owner is such a bag
abbrev pub AreAllBags : ℕ → List (List Bag) → Type 0
AreAllBags op bags = (i : ℕ) → AreOwnBags op bags i
