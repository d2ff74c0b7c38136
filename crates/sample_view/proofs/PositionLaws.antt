-- The slice and position of a point.
use Rattle.std.proofs.Common.{◌≡◌, ℕ, ◌+◌, ◌-◌, ◌/◌, ◌<◌, ◌≤◌, List, ◌++◌, length, get_or, take, drop, refl, ap, sym}
use Rattle.std.proofs.Common.{◌∙◌, arith, length-append}
use Rattle.std.specs.Prelude.{All}
use Rattle.std.specs.Borrow.{Bor}
use Rattle.std.proofs.lemmas.List.{take_at, drop_at}
use Rattle.std.proofs.lemmas.List.Elements.{All-get_or}
use Rattle.sample_view.specs.Words.{words}
use Rattle.sample_view.specs.Pieces.{joined, IsPiece}
use Rattle.sample_view.specs.Runs.{IsRunAround}
use Rattle.sample_view.proofs.WordLaws.{length-words}
use Rattle.sample_view.proofs.PieceLaws.{joined-more, joined-split}

-- The position relative to the next slice.
pub position-next : (ps : List (Bor (List ℕ))) (i j index : ℕ) (d : Bor (List ℕ)) → i < length ps
    → length (joined (take i ps)) + j ≡ index → length (get_or ps i d).now / 2 ≤ j
    → length (joined (take (i + 1) ps)) + (j - length (get_or ps i d).now / 2) ≡ index
position-next ps i j index d h e le =
    let more = ap length (joined-more ps i d h) in
    omega (
      arith,
      more,
      length-append (joined (take i ps)) (words (get_or ps i d).now),
      length-words (get_or ps i d).now,
    )

-- This slice is a run of the points around the one at the index.
pub run-found : (ps : List (Bor (List ℕ))) (i j index : ℕ) (d : Bor (List ℕ)) → All IsPiece ps → i < length ps
    → length (joined (take i ps)) + j ≡ index → j < length (get_or ps i d).now / 2
    → IsRunAround (joined ps) index (get_or ps i d).now j
run-found ps i j index d a h e lt =
    let before = joined (take i ps) in
    let here = words (get_or ps i d).now in
    let after = joined (drop (i + 1) ps) in
    let piece : IsPiece (get_or ps i d) = All-get_or IsPiece ps i d h a in
    let skipped : length before ≡ index - j = omega (arith, e) in
    record {
      begins = omega (arith, e);
      inside = omega (arith, lt);
      even = piece.even;
      run = sym (
          ap (λ t. take (length here) (drop (index - j) t)) (joined-split ps i d h)
          ∙ ap (λ t. take (length here) t) (drop_at before (here ++ after) (index - j) skipped)
          ∙ take_at here after (length here) refl);
    }
