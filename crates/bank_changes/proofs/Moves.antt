-- A list after one of its members is moved.
use Rattle.std.proofs.Common.{◌≡◌, ◌<◌, ℕ, List, length, map, remove, sym, ◌∙◌, ap, arith}
use Rattle.std.specs.Prelude.{sum_by}
use Rattle.std.proofs.lemmas.List.Sums.{sum_by-insert}
use Rattle.base_numbered_lists.specs.Moved.{moved}
use Rattle.base_numbered_lists.proofs.Lists.{slice_get-found, length-moved, map-moved, moved-back}
pub use Rattle.bank_parts.proofs.ListLaws.{everywhere-moved as all_moved}
use Rattle.bank_changes.proofs.Changes.{sum-removed}

pub sum-moved : {X : Type 0} (measure : X → ℕ) (xs : List X) (i j : ℕ) → i < length xs
    → sum_by measure (moved xs i j) ≡ sum_by measure xs
sum-moved measure xs i j lt =
    let (x, e) = slice_get-found xs i lt in
    let less = sum-removed measure xs i x e in
    let more = sum_by-insert measure (remove xs i) j x in
    rw e (omega (arith, less, more))

-- the move undone, after all members were changed by f
pub moved_back-sent : {X : Type 0} (f : X → X) (xs : List X) (i j : ℕ) → i < length xs → j < length xs
    → moved (map f (moved xs i j)) j i ≡ map f xs
moved_back-sent f xs i j lt lu =
    let size = length-moved xs i j lt lu in
    sym (map-moved f (moved xs i j) j i (omega (arith, size, lu))) ∙ ap (map f) (moved-back xs i j lt lu)
