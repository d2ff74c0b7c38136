-- The points from an index on that one slice has.
use Rattle.std.proofs.Common.{◌≡◌, ◌<◌, ◌≤◌, ◌+◌, ◌-◌, ◌*◌, ◌/◌, ℕ, List, length, take, drop, refl, ap, ◌∙◌, arith}
use Rattle.std.proofs.lemmas.List.{drop-drop, drop-take, take-take, length-take, length-drop}
use Rattle.sample_view.specs.Words.{words}
use Rattle.sample_view.specs.Runs.{IsRunAround}
use Rattle.sample_view.proofs.WordLaws.{length-words, words-take, words-drop}

-- the first points of a run
pub front_of_run : (points run : List ℕ) (index count : ℕ) → words run ≡ take (length run / 2) (drop index points)
    → count ≤ length run / 2 → words (take (2 * count) run) ≡ take count (drop index points)
front_of_run points run index count e inside =
    words-take (2 * count) count run refl ∙ ap (take count) e
    ∙ take-take count (length run / 2) (drop index points) (omega (arith, inside))

module _ (points bytes : List ℕ) (index position : ℕ) (run : IsRunAround points index bytes position) where
  abbrev rest : List ℕ
  rest = drop (2 * position) bytes

  length-rest : length rest ≡ length bytes - 2 * position
  length-rest = length-drop (2 * position) bytes

  pub run_inside : index < length points → index + length rest / 2 ≤ length points
  run_inside inside =
      let begins = run.begins in
      let within = run.inside in
      let count = length-words bytes in
      let all = ap length run.run ∙ length-take (length (words bytes)) (drop (index - position) points) in
      let after = length-drop (index - position) points in
      let more = length-rest in
      omega (arith, begins, within, count, all, after, more, inside)

  pub run_points : words rest ≡ take (length rest / 2) (drop index points)
  run_points =
      let begins = run.begins in
      let within = run.inside in
      let count = length-words bytes in
      let more = length-rest in
      let n : length (words bytes) ≡ position + length rest / 2 = omega (arith, count, more, within) in
      let first : index - position + position ≡ index = omega (arith, begins) in
      words-drop (2 * position) position bytes refl ∙ ap (drop position) run.run
      ∙ ap (λ (k : ℕ). drop position (take k (drop (index - position) points))) n
      ∙ drop-take position (length rest / 2) (drop (index - position) points)
      ∙ ap (take (length rest / 2))
      (drop-drop position (index - position) points ∙ ap (λ (k : ℕ). drop k points) first)
