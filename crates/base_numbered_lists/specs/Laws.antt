-- What a change of a list and its inverse leave, in the list and in numbers that refer to its members.
use Rattle.std.specs.Prelude.{◌≡◌, ◌≢◌, ◌<◌, ◌≤◌, ◌+◌, ℕ, List, Some, All, length, map, insert, remove, slice_get}
use Rattle.std.specs.Prelude.{slice_set}
use Rattle.base_numbered_lists.specs.declared.renumbering.Renumbering.TheVariants.{Insertion, Removal, Move}
use Rattle.base_numbered_lists.specs.Moved.{moved, changed}
use Rattle.base_numbered_lists.specs.Renumbered.{renumbered}

-- The list

-- A member inserted, then removed.
abbrev pub InsertionUndone : Type 0 → Type 0
InsertionUndone X = (xs : List X) (i : ℕ) (x : X) → i ≤ length xs → remove (insert xs i x) i ≡ xs

-- A member removed, then inserted again.
abbrev pub RemovalUndone : Type 0 → Type 0
RemovalUndone X = (xs : List X) (i : ℕ) (x : X) → slice_get xs i ≡ Some x → insert (remove xs i) i x ≡ xs

-- A move, then the move back.
abbrev pub MoveUndone : Type 0 → Type 0
MoveUndone X = (xs : List X) (i j : ℕ) → i < length xs → j < length xs → moved (moved xs i j) j i ≡ xs

-- A member replaced by another, then restored.
abbrev pub ExchangeUndone : Type 0 → Type 0
ExchangeUndone X =
    (xs : List X) (i : ℕ) (x y : X) → slice_get xs i ≡ Some x
    → slice_set (slice_set xs i y) i x ≡ xs

-- A member changed by f, then changed back by g.
abbrev pub ChangeUndone : Type 0 → Type 0
ChangeUndone X =
    (xs : List X) (i : ℕ) (x : X) (f g : X → X) → slice_get xs i ≡ Some x → g (f x) ≡ x
    → changed (changed xs i f) i g ≡ xs

-- The list and the numbers in its members: f renumbers a member, and g undoes that

-- Every member renumbered, then renumbered back.
abbrev pub RenumberingUndone : Type 0 → Type 0
RenumberingUndone X = (xs : List X) (f g : X → X) → All (λ x. g (f x) ≡ x) xs → map g (map f xs) ≡ xs

-- Members renumbered and one inserted; then it is removed and the members are renumbered back.
abbrev pub NumberedInsertionUndone : Type 0 → Type 0
NumberedInsertionUndone X =
    (xs : List X) (i : ℕ) (x : X) (f g : X → X) → i ≤ length xs → All (λ y. g (f y) ≡ y) xs
    → map g (remove (insert (map f xs) i x) i) ≡ xs

-- A member removed and the others renumbered; then they are renumbered back and it is inserted.
abbrev pub NumberedRemovalUndone : Type 0 → Type 0
NumberedRemovalUndone X =
    (xs : List X) (i : ℕ) (x : X) (f g : X → X) → slice_get xs i ≡ Some x → All (λ y. g (f y) ≡ y) (remove xs i)
    → insert (map g (map f (remove xs i))) i x ≡ xs

-- A move and the members renumbered; then the move back and the members renumbered back.
abbrev pub NumberedMoveUndone : Type 0 → Type 0
NumberedMoveUndone X =
    (xs : List X) (i j : ℕ) (f g : X → X) → i < length xs → j < length xs → All (λ y. g (f y) ≡ y) xs
    → map g (moved (map f (moved xs i j)) j i) ≡ xs

-- The numbers

-- Every number is restored when an inserted member is removed.
abbrev pub InsertionRenumberingUndone : Type 0
InsertionRenumberingUndone = (i x : ℕ) → renumbered (Removal i) (renumbered (Insertion i) x) ≡ x

-- Every number except the removed member's is restored when the member is inserted again.
abbrev pub RemovalRenumberingUndone : Type 0
RemovalRenumberingUndone = (i x : ℕ) → x ≢ i → renumbered (Insertion i) (renumbered (Removal i) x) ≡ x

-- Every number is restored when a move is undone.
abbrev pub MoveRenumberingUndone : Type 0
MoveRenumberingUndone = (i j x : ℕ) → renumbered (Move j i) (renumbered (Move i j) x) ≡ x

-- A list of numbers is restored when an inserted member is removed.
abbrev pub InsertionRenumberingUndoneAll : Type 0
InsertionRenumberingUndoneAll =
    (i : ℕ) (xs : List ℕ) → map (renumbered (Removal i)) (map (renumbered (Insertion i)) xs) ≡ xs

-- A list of numbers without the removed member's is restored when the member is inserted again.
abbrev pub RemovalRenumberingUndoneAll : Type 0
RemovalRenumberingUndoneAll =
    (i : ℕ) (xs : List ℕ) → All (λ x. x ≢ i) xs
    → map (renumbered (Insertion i)) (map (renumbered (Removal i)) xs) ≡ xs

-- A list of numbers is restored when a move is undone.
abbrev pub MoveRenumberingUndoneAll : Type 0
MoveRenumberingUndoneAll = (i j : ℕ) (xs : List ℕ) → map (renumbered (Move j i)) (map (renumbered (Move i j)) xs) ≡ xs

-- The new number refers to the member that the old number referred to

-- After an insertion, for every number.
abbrev pub InsertionFollowed : Type 0 → Type 0
InsertionFollowed X =
    (xs : List X) (i : ℕ) (x : X) (k : ℕ) → i ≤ length xs
    → slice_get (insert xs i x) (renumbered (Insertion i) k) ≡ slice_get xs k

-- After a removal, for every number except the removed member's.
abbrev pub RemovalFollowed : Type 0 → Type 0
RemovalFollowed X =
    (xs : List X) (i k : ℕ) → k ≢ i
    → slice_get (remove xs i) (renumbered (Removal i) k) ≡ slice_get xs k

-- After a move, for every number.
abbrev pub MoveFollowed : Type 0 → Type 0
MoveFollowed X =
    (xs : List X) (i j k : ℕ) → i < length xs → j < length xs
    → slice_get (moved xs i j) (renumbered (Move i j) k) ≡ slice_get xs k

-- No new number is the inserted member's.
abbrev pub InsertedNumberIsFree : Type 0
InsertedNumberIsFree = (i k : ℕ) → renumbered (Insertion i) k ≢ i

-- The length of the list, and that a member's number stays below it

-- An insertion adds one to the length.
abbrev pub InsertionLengthens : Type 0 → Type 0
InsertionLengthens X = (xs : List X) (i : ℕ) (x : X) → i ≤ length xs → length (insert xs i x) ≡ length xs + 1

-- A removal subtracts one from the length.
abbrev pub RemovalShortens : Type 0 → Type 0
RemovalShortens X = (xs : List X) (i : ℕ) → i < length xs → length (remove xs i) + 1 ≡ length xs

-- A move keeps the length.
abbrev pub MoveKeepsLength : Type 0 → Type 0
MoveKeepsLength X =
    (xs : List X) (i j : ℕ) → i < length xs → j < length xs → length (moved xs i j) ≡ length xs

-- A change of a member keeps the length.
abbrev pub ChangeKeepsLength : Type 0 → Type 0
ChangeKeepsLength X = (xs : List X) (i : ℕ) (f : X → X) → length (changed xs i f) ≡ length xs

-- After an insertion, a member's new number is below the new length.
abbrev pub InsertionStaysBelow : Type 0 → Type 0
InsertionStaysBelow X =
    (xs : List X) (i : ℕ) (x : X) (k : ℕ) → i ≤ length xs → k < length xs
    → renumbered (Insertion i) k < length (insert xs i x)

-- After a removal, the new number of a remaining member is below the new length.
abbrev pub RemovalStaysBelow : Type 0 → Type 0
RemovalStaysBelow X =
    (xs : List X) (i k : ℕ) → i < length xs → k < length xs → k ≢ i
    → renumbered (Removal i) k < length (remove xs i)

-- After a move, a member's new number is below the length.
abbrev pub MoveStaysBelow : Type 0 → Type 0
MoveStaysBelow X =
    (xs : List X) (i j k : ℕ) → i < length xs → j < length xs → k < length xs
    → renumbered (Move i j) k < length (moved xs i j)
