-- The generators of a zone: a finite map from operators to amounts, in canonical order.
use Rattle.std.specs.Prelude.{ℕ, ◌+◌, ◌<◌, ◌^◌, ◌==◌, if◌then◌else◌, IsTrue, List, [], ◌∷◌}
use Rattle.std.specs.List.{AllByRecursion, list_any}
use Rattle.std.specs.Ordering.{nat_cmp}
use Rattle.std.specs.declared.cmp.Ordering.{Ordering}
use Rattle.std.specs.FinMap.{FinMap, entries, empty, insert, is_sorted}

-- The rank of an operator in the canonical order: 43, then 44, then the others by number.
abbrev pub rank : ℕ → ℕ
rank op = if op == 43 then 0 else if op == 44 then 1 else op + 2

abbrev pub operator_cmp : ℕ → ℕ → Ordering
operator_cmp x y = nat_cmp (rank x) (rank y)

abbrev pub Gens : Type 0
Gens = FinMap operator_cmp ℕ

-- The map in which nothing is set.
abbrev pub no_gens : Gens
no_gens = empty

-- The map after setting the entries one after another.
abbrev pub set_in_order : Gens → List (ℕ × ℕ) → Gens
set_in_order gs [] = gs
set_in_order gs (e ∷ es) = set_in_order (insert gs e.0 e.1) es

-- The last entry of each operator.
abbrev pub last_of_each : List (ℕ × ℕ) → List (ℕ × ℕ)
last_of_each [] = []
last_of_each (e ∷ es) = if list_any (λ (x : ℕ × ℕ). x.0 == e.0) es then last_of_each es else e ∷ last_of_each es

-- Entries in canonical order, each operator once.
abbrev pub AreInOrder : List (ℕ × ℕ) → Type 0
AreInOrder es = IsTrue (is_sorted operator_cmp es)

-- An operator and an amount of 16 bits each.
abbrev pub FitsEntry : ℕ × ℕ → Type 0
FitsEntry e = (e.0 < 2 ^ 16) × (e.1 < 2 ^ 16)

abbrev pub FitEntries : List (ℕ × ℕ) → Type 0
FitEntries es = AllByRecursion FitsEntry es

-- Each number of the map fits its record field.
abbrev pub FitGens : Gens → Type 0
FitGens gs = FitEntries (entries gs)

-- Entries in canonical order, each operator once, with 16-bit numbers.
pub record AreGens (es : List (ℕ × ℕ)) : Type 0 where
  pub sorted : IsTrue (is_sorted operator_cmp es)
  pub fit : FitEntries es
