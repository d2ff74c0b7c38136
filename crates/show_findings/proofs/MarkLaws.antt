-- Marking the numbers of a list.
use Rattle.std.proofs.Common.{◌≡◌, ◌<◌, ℕ, List, length, take, get_or}
use Rattle.std.proofs.Common.{◌||◌, Bool, false}
use Rattle.show_findings.specs.Uses.{has}

-- the first i numbers are marked besides those that were
abbrev pub Marks : List Bool → List Bool → List ℕ → ℕ → Type 0
Marks old now numbers i =
    (length now ≡ length old)
    × ((n : ℕ) → n < length old → get_or now n false ≡ (get_or old n false || has (take i numbers) n))
