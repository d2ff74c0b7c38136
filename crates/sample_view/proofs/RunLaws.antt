-- The points around one, read from its slice.
use Rattle.std.proofs.Common.{◌≡◌, ℕ, ◌+◌, ◌-◌, ◌*◌, ◌<◌, List, length, get_or, drop, ap, sym, refl, ◌∙◌, arith}
use Rattle.std.proofs.Common.{get_or-take, get_or-drop}
use Rattle.sample_view.specs.Words.{words}
use Rattle.sample_view.specs.Runs.{IsRunAround}
use Rattle.sample_view.proofs.WordLaws.{length-words, get_or-words}

-- Two points of a slice are as far apart as in the list.
pub get_or-run : (points bytes : List ℕ) (index position k : ℕ) → IsRunAround points index bytes position
    → 2 * k + 1 < length bytes
    → get_or (words bytes) k 0 ≡ get_or points (index - position + k) 0
get_or-run points bytes index position k run h =
    let n = length (words bytes) in
    let first = index - position in
    let in_words : k < n = omega (arith, length-words bytes) in
    ap (λ t. get_or t k 0) run.run ∙ get_or-take n (drop first points) k 0 in_words ∙ get_or-drop first points k 0

-- The point at its own position.
pub get_or-run_here : (points bytes : List ℕ) (index position : ℕ) → IsRunAround points index bytes position
    → get_or points index 0 ≡ get_or bytes (2 * position) 0 + 256 * get_or bytes (2 * position + 1) 0
get_or-run_here points bytes index position run =
    let begins = run.begins in
    let here : index - position + position ≡ index = omega (arith, begins) in
    sym (get_or-run points bytes index position position run run.inside ∙ ap (λ k. get_or points k 0) here)
    ∙ get_or-words (2 * position) position bytes refl run.inside
