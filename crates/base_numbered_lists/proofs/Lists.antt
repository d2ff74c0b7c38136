-- Insertions, removals, moves, exchanges and changes of a list, and their inverses.
use Rattle.std.proofs.Common.{◌≡◌, ℕ, ◌<◌, ◌≤◌, suc, zero, List, [], ◌∷◌, length, map, insert, remove, slice_get}
use Rattle.std.proofs.Common.{slice_set, All, Some, None, refl, sym, ◌∙◌, ap, take, drop, arith}
use Rattle.std.proofs.lemmas.List.{length-map}
use Rattle.std.proofs.lemmas.List.Edits.{length-insert, length-remove}
use Rattle.std.proofs.lemmas.List.Elements.{All-append, All-take, All-drop, All-head, All-tail, All-cons}
use Rattle.std.specs.Option.{option_map_or}
use Rattle.base_numbered_lists.specs.Moved.{moved, changed}

-- The member at an index

pub slice_get-found : {X : Type 0} (xs : List X) (i : ℕ) → i < length xs → (x : X) × (slice_get xs i ≡ Some x)
slice_get-found [] i h = absurd (omega arith)
slice_get-found (y ∷ ys) zero h = (y, refl)
slice_get-found (y ∷ ys) (suc i) h = slice_get-found ys i (omega arith)

pub slice_get-within : {X : Type 0} (xs : List X) (i : ℕ) (x : X) → slice_get xs i ≡ Some x → i < length xs
slice_get-within [] i x e = cc
slice_get-within (y ∷ ys) zero x e = omega arith
slice_get-within (y ∷ ys) (suc i) x e = let k = slice_get-within ys i x e in omega arith

pub slice_get-insert : {X : Type 0} (xs : List X) (i : ℕ) (x : X) → i ≤ length xs → slice_get (insert xs i x) i ≡ Some x
slice_get-insert [] zero x h = refl
slice_get-insert [] (suc i) x h = absurd (omega arith)
slice_get-insert (y ∷ ys) zero x h = refl
slice_get-insert (y ∷ ys) (suc i) x h = slice_get-insert ys i x (omega arith)

pub slice_get-insert_below : {X : Type 0} (xs : List X) (i : ℕ) (x : X) (k : ℕ) → i ≤ length xs → k < i
    → slice_get (insert xs i x) k ≡ slice_get xs k
slice_get-insert_below xs zero x k h l = absurd (omega arith)
slice_get-insert_below [] (suc i) x k h l = absurd (omega arith)
slice_get-insert_below (y ∷ ys) (suc i) x zero h l = refl
slice_get-insert_below (y ∷ ys) (suc i) x (suc k) h l = slice_get-insert_below ys i x k (omega arith) (omega arith)

pub slice_get-insert_above : {X : Type 0} (xs : List X) (i : ℕ) (x : X) (k : ℕ) → i ≤ length xs → i ≤ k
    → slice_get (insert xs i x) (suc k) ≡ slice_get xs k
slice_get-insert_above [] zero x k h l = refl
slice_get-insert_above [] (suc i) x k h l = absurd (omega arith)
slice_get-insert_above (y ∷ ys) zero x k h l = refl
slice_get-insert_above (y ∷ ys) (suc i) x zero h l = absurd (omega arith)
slice_get-insert_above (y ∷ ys) (suc i) x (suc k) h l = slice_get-insert_above ys i x k (omega arith) (omega arith)

pub slice_get-remove_below : {X : Type 0} (xs : List X) (i k : ℕ) → k < i → slice_get (remove xs i) k ≡ slice_get xs k
slice_get-remove_below xs zero k l = absurd (omega arith)
slice_get-remove_below [] (suc i) k l = refl
slice_get-remove_below (y ∷ ys) (suc i) zero l = refl
slice_get-remove_below (y ∷ ys) (suc i) (suc k) l = slice_get-remove_below ys i k (omega arith)

pub slice_get-remove_above : {X : Type 0} (xs : List X) (i k : ℕ) → i ≤ k
    → slice_get (remove xs i) k ≡ slice_get xs (suc k)
slice_get-remove_above [] zero k l = refl
slice_get-remove_above [] (suc i) k l = refl
slice_get-remove_above (y ∷ ys) zero k l = refl
slice_get-remove_above (y ∷ ys) (suc i) zero l = absurd (omega arith)
slice_get-remove_above (y ∷ ys) (suc i) (suc k) l = slice_get-remove_above ys i k (omega arith)

pub slice_get-slice_set : {X : Type 0} (xs : List X) (i : ℕ) (x : X) → i < length xs
    → slice_get (slice_set xs i x) i ≡ Some x
slice_get-slice_set [] i x h = absurd (omega arith)
slice_get-slice_set (y ∷ ys) zero x h = refl
slice_get-slice_set (y ∷ ys) (suc i) x h = slice_get-slice_set ys i x (omega arith)

pub slice_get-map : {X Y : Type 0} (f : X → Y) (xs : List X) (i : ℕ) (x : X) → slice_get xs i ≡ Some x
    → slice_get (map f xs) i ≡ Some (f x)
slice_get-map f [] i x e = cc
slice_get-map f (y ∷ ys) zero x e = cc
slice_get-map f (y ∷ ys) (suc i) x e = slice_get-map f ys i x e

-- Insertion and removal

pub insert-remove : {X : Type 0} (xs : List X) (i : ℕ) (x : X) → slice_get xs i ≡ Some x → insert (remove xs i) i x ≡ xs
insert-remove [] i x e = cc
insert-remove (y ∷ ys) zero x e = cc
insert-remove (y ∷ ys) (suc i) x e = ap (λ zs. y ∷ zs) (insert-remove ys i x e)

pub remove-insert : {X : Type 0} (xs : List X) (i : ℕ) (x : X) → i ≤ length xs → remove (insert xs i x) i ≡ xs
remove-insert [] zero x h = refl
remove-insert [] (suc i) x h = absurd (omega arith)
remove-insert (y ∷ ys) zero x h = refl
remove-insert (y ∷ ys) (suc i) x h = ap (λ zs. y ∷ zs) (remove-insert ys i x (omega arith))

-- A move

pub moved-found : {X : Type 0} (xs : List X) (i j : ℕ) (x : X) → slice_get xs i ≡ Some x
    → moved xs i j ≡ insert (remove xs i) j x
moved-found xs i j x e = rw e refl

pub length-moved : {X : Type 0} (xs : List X) (i j : ℕ) → i < length xs → j < length xs
    → length (moved xs i j) ≡ length xs
length-moved xs i j h k =
    let (x, e) = slice_get-found xs i h in
    let rest = length-remove xs i h in
    let whole = length-insert (remove xs i) j x (omega arith) in
    rw e (omega arith)

pub slice_get-moved : {X : Type 0} (xs : List X) (i j : ℕ) → i < length xs → j < length xs
    → slice_get (moved xs i j) j ≡ slice_get xs i
slice_get-moved xs i j h k =
    let (x, e) = slice_get-found xs i h in
    let rest = length-remove xs i h in
    rw e (slice_get-insert (remove xs i) j x (omega arith))

pub moved-back : {X : Type 0} (xs : List X) (i j : ℕ) → i < length xs → j < length xs → moved (moved xs i j) j i ≡ xs
moved-back xs i j h k =
    let (x, e) = slice_get-found xs i h in
    let rest = length-remove xs i h in
    let inside : j ≤ length (remove xs i) = omega arith in
    rw e
    (rw (slice_get-insert (remove xs i) j x inside, remove-insert (remove xs i) j x inside)
    (insert-remove xs i x e))

-- An exchange

pub length-slice_set : {X : Type 0} (xs : List X) (i : ℕ) (x : X) → length (slice_set xs i x) ≡ length xs
length-slice_set [] i x = refl
length-slice_set (y ∷ ys) zero x = refl
length-slice_set (y ∷ ys) (suc i) x = ap suc (length-slice_set ys i x)

pub slice_set-back : {X : Type 0} (xs : List X) (i : ℕ) (x y : X) → slice_get xs i ≡ Some x
    → slice_set (slice_set xs i y) i x ≡ xs
slice_set-back [] i x y e = refl
slice_set-back (z ∷ zs) zero x y e = cc
slice_set-back (z ∷ zs) (suc i) x y e = ap (λ ws. z ∷ ws) (slice_set-back zs i x y e)

-- Writing back what was read changes nothing.
pub slice_set_same : {X : Type 0} (xs : List X) (i : ℕ) (x : X) → slice_get xs i ≡ Some x → slice_set xs i x ≡ xs
slice_set_same [] i x e = refl
slice_set_same (y ∷ ys) zero x e = cc
slice_set_same (y ∷ ys) (suc i) x e = ap (λ zs. y ∷ zs) (slice_set_same ys i x e)

-- A change of one member

pub changed-found : {X : Type 0} (xs : List X) (i : ℕ) (f : X → X) (x : X) → slice_get xs i ≡ Some x
    → changed xs i f ≡ slice_set xs i (f x)
changed-found xs i f x e = rw e refl

pub length-changed : {X : Type 0} (xs : List X) (i : ℕ) (f : X → X) → length (changed xs i f) ≡ length xs
length-changed xs i f =
    elim (slice_get xs i) as (λ o. length (option_map_or (λ x. slice_set xs i (f x)) o xs) ≡ length xs)
    [ None ↦ refl | Some x ↦ length-slice_set xs i (f x) ]

pub slice_get-changed : {X : Type 0} (xs : List X) (i : ℕ) (f : X → X) (x : X) → slice_get xs i ≡ Some x
    → slice_get (changed xs i f) i ≡ Some (f x)
slice_get-changed xs i f x e = rw e (slice_get-slice_set xs i (f x) (slice_get-within xs i x e))

pub changed-back : {X : Type 0} (xs : List X) (i : ℕ) (f g : X → X) (x : X) → slice_get xs i ≡ Some x → g (f x) ≡ x
    → changed (changed xs i f) i g ≡ xs
changed-back xs i f g x e same =
    rw e (rw (slice_get-slice_set xs i (f x) (slice_get-within xs i x e), same) (slice_set-back xs i x (f x) e))

-- A change of every member

pub map-insert : {X Y : Type 0} (f : X → Y) (xs : List X) (i : ℕ) (x : X)
    → map f (insert xs i x) ≡ insert (map f xs) i (f x)
map-insert f [] zero x = refl
map-insert f [] (suc i) x = refl
map-insert f (y ∷ ys) zero x = refl
map-insert f (y ∷ ys) (suc i) x = ap (λ zs. f y ∷ zs) (map-insert f ys i x)

pub map-remove : {X Y : Type 0} (f : X → Y) (xs : List X) (i : ℕ) → map f (remove xs i) ≡ remove (map f xs) i
map-remove f [] zero = refl
map-remove f [] (suc i) = refl
map-remove f (y ∷ ys) zero = refl
map-remove f (y ∷ ys) (suc i) = ap (λ zs. f y ∷ zs) (map-remove f ys i)

pub map-moved : {X Y : Type 0} (f : X → Y) (xs : List X) (i j : ℕ) → i < length xs
    → map f (moved xs i j) ≡ moved (map f xs) i j
map-moved f xs i j h =
    let (x, e) = slice_get-found xs i h in
    rw (e, slice_get-map f xs i x e) (map-insert f (remove xs i) j x ∙ ap (λ zs. insert zs j (f x)) (map-remove f xs i))

pub map-slice_set : {X Y : Type 0} (f : X → Y) (xs : List X) (i : ℕ) (x : X)
    → map f (slice_set xs i x) ≡ slice_set (map f xs) i (f x)
map-slice_set f [] i x = refl
map-slice_set f (y ∷ ys) zero x = refl
map-slice_set f (y ∷ ys) (suc i) x = ap (λ zs. f y ∷ zs) (map-slice_set f ys i x)

pub map-undone : {X : Type 0} (f g : X → X) (xs : List X) → All (λ x. g (f x) ≡ x) xs → map g (map f xs) ≡ xs
map-undone f g [] h = refl
map-undone f g (x ∷ xs) h =
    λ i. All-head (λ x. g (f x) ≡ x) x xs h i ∷ map-undone f g xs (All-tail (λ x. g (f x) ≡ x) x xs h) i

-- A change of the list with a change f of every member, undone with g

pub remove-insert-numbered : {X : Type 0} (xs : List X) (i : ℕ) (x : X) (f g : X → X) → i ≤ length xs
    → All (λ y. g (f y) ≡ y) xs → map g (remove (insert (map f xs) i x) i) ≡ xs
remove-insert-numbered xs i x f g h same =
    let size = length-map xs f in
    ap (map g) (remove-insert (map f xs) i x (omega arith)) ∙ map-undone f g xs same

pub insert-remove-numbered : {X : Type 0} (xs : List X) (i : ℕ) (x : X) (f g : X → X) → slice_get xs i ≡ Some x
    → All (λ y. g (f y) ≡ y) (remove xs i) → insert (map g (map f (remove xs i))) i x ≡ xs
insert-remove-numbered xs i x f g e same =
    ap (λ zs. insert zs i x) (map-undone f g (remove xs i) same) ∙ insert-remove xs i x e

pub moved-back-numbered : {X : Type 0} (xs : List X) (i j : ℕ) (f g : X → X) → i < length xs → j < length xs
    → All (λ y. g (f y) ≡ y) xs → map g (moved (map f (moved xs i j)) j i) ≡ xs
moved-back-numbered xs i j f g h k same =
    let size = length-moved xs i j h k in
    ap (map g) (sym (map-moved f (moved xs i j) j i (omega arith)) ∙ ap (map f) (moved-back xs i j h k))
    ∙ map-undone f g xs same

-- Properties of every member

pub All-insert : {X : Type 0} (P : X → Type 0) (xs : List X) (i : ℕ) (x : X) → P x → All P xs → All P (insert xs i x)
All-insert P xs i x h a =
    All-append P (take i xs) (x ∷ drop i xs) (All-take P i xs a) (All-cons P x (drop i xs) h (All-drop P i xs a))

pub All-remove : {X : Type 0} (P : X → Type 0) (xs : List X) (i : ℕ) → All P xs → All P (remove xs i)
All-remove P xs i a = All-append P (take i xs) (drop (suc i) xs) (All-take P i xs a) (All-drop P (suc i) xs a)
