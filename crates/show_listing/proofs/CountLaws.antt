-- Counting numbers in one pass.
use Rattle.std.proofs.Common.{◌≡◌, ◌≤◌, ◌<◌, ℕ, List, length, take, get_or, refl, ap, ◌∙◌, arith}
use Rattle.std.specs.Prelude.{◌==◌, not}
use Rattle.std.proofs.lemmas.List.{length-take-le, take_all}
use Rattle.std.proofs.lemmas.List.Filters.{length-filter_both}
use Rattle.std.proofs.lemmas.List.FromFn.{fill_by_all}
use Rattle.show_listing.specs.Uses.{times, tally}

-- the counts are those of the first i numbers
abbrev pub Counts : ℕ → List ℕ → ℕ → List ℕ → Type 0
Counts members numbers i counts =
    (length counts ≡ members) × ((n : ℕ) → n < members → get_or counts n 0 ≡ times n (take i numbers))

-- no number occurs more often than there are numbers
few : (n : ℕ) (numbers : List ℕ) → times n numbers ≤ length numbers
few n numbers =
    let both = length-filter_both (λ m. m == n) (λ m. not (m == n)) (λ m. refl) numbers in omega (arith, both)

pub counts_below : (members : ℕ) (numbers counts : List ℕ) (i at : ℕ) → Counts members numbers i counts
    → i < length numbers → at < members → get_or counts at 0 ≤ i
counts_below members numbers counts i at h lt here =
    let number = h.1 at here in
    let most = few at (take i numbers) in
    let long = length-take-le i numbers (omega (arith, lt)) in
    omega (arith, number, most, long)

pub counts_all : (members : ℕ) (numbers counts : List ℕ) (i : ℕ) → Counts members numbers i counts
    → length numbers ≤ i → counts ≡ tally members numbers
counts_all members numbers counts i h over =
    fill_by_all (λ n. times n numbers) counts members 0 h.0
    (λ n less. h.1 n less ∙ ap (times n) (take_all i numbers over))
