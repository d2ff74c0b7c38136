-- Insertion and removal of owners without bags, and removal of bags from the last one on.
use Rattle.std.proofs.Common.{◌≡◌, ℕ, ◌<◌, ◌≤◌, suc, zero, List, [], ◌∷◌, ◌++◌, length, insert, remove, slice_get}
use Rattle.std.proofs.Common.{set, Some, is_some, refl, sym, subst, ◌∙◌, ap, take, drop, get_or, add-zero}
use Rattle.std.proofs.Common.{length-take, arith}
use Rattle.std.specs.Option.{IfSome, IsSomeAnd, IsSome, option_and_then}
use Rattle.std.proofs.lemmas.List.{take-append-drop, length-take-le}
use Rattle.std.proofs.lemmas.List.Edits.{length-remove}
use Rattle.std.proofs.lemmas.List.Concat.{flat_map-append}
use Rattle.std.proofs.Math.Seq.{take-length}
use Rattle.base_numbered_lists.specs.Moved.{moved, changed}
use Rattle.base_numbered_lists.proofs.Lists.{moved-found, remove-insert, slice_get-found, slice_get-changed}
use Rattle.base_numbered_lists.proofs.Lists.{changed-found, slice_set_same}
use Rattle.flat_records.specs.Runs.{starts}
use Rattle.flat_records.specs.Bags.{Bag}
use Rattle.base_numbered_lists.proofs.Changing.{found}
use Rattle.flat_records.proofs.Starts.{starts-put, starts-cut}
use Rattle.flat_records.proofs.TableLaws.{among, removed}
use Rattle.flat_records.specs.Owned.{Flat, past_owner, all_bags, flat_of, bag_at}
use Rattle.flat_records.proofs.Owners.{AreOf, begin_read}

none-among : (front back : List (List Bag)) → all_bags (front ++ [] ∷ back) ≡ all_bags (front ++ back)
none-among front back =
    flat_map-append (λ (bags : List Bag). bags) front ([] ∷ back)
    ∙ sym (flat_map-append (λ (bags : List Bag). bags) front back)

pub owner_put : {t : Flat} {owners : List (List Bag)} → AreOf t owners → (i : ℕ) → i ≤ length owners
    → {at : ℕ} {new : List ℕ} → at ≡ get_or t.begins i at → new ≡ insert t.begins i at
    → AreOf (record { begins = new; bags = t.bags }) (insert owners i [])
owner_put {t} {owners} are i h {at} {new} e f =
    let front = take i owners in
    let back = drop i owners in
    let same : t ≡ flat_of (front ++ back) = are.same ∙ ap flat_of (sym (take-append-drop i owners)) in
    let before : i ≡ length front = sym (length-take-le i owners h) in
    let begins : new ≡ starts past_owner 0 (front ++ [] ∷ back) =
    f ∙ (ap (insert t.begins i) (begin_read are i h e)
    ∙ (ap (λ (t : Flat). insert t.begins i (get_or t.begins i 0)) same
    ∙ (ap (λ n. insert (starts past_owner 0 (front ++ back)) n (get_or (starts past_owner 0 (front ++ back)) n 0))
    before
    ∙ starts-put past_owner 0 0 front [] back (λ m. add-zero m)))) in
    let bags : t.bags ≡ all_bags (front ++ [] ∷ back) = ap (λ (t : Flat). t.bags) same ∙ sym (none-among front back) in
    record { same = λ k. record { begins = begins k; bags = bags k } }

pub owner_cut : {t : Flat} {owners : List (List Bag)} → AreOf t owners → (i : ℕ) → slice_get owners i ≡ Some []
    → {new : List ℕ} → new ≡ remove t.begins i
    → AreOf (record { begins = new; bags = t.bags }) (remove owners i)
owner_cut {t} {owners} are i there {new} f =
    let a = among owners i [] there in
    let same : t ≡ flat_of (a.front ++ [] ∷ a.back) = are.same ∙ ap flat_of a.whole in
    let begins : new ≡ starts past_owner 0 (a.front ++ a.back) =
    f ∙ (ap (λ (t : Flat). remove t.begins i) same
    ∙ (ap (λ n. remove (starts past_owner 0 (a.front ++ [] ∷ a.back)) n) (sym a.before)
    ∙ starts-cut past_owner 0 a.front [] a.back (λ m. add-zero m))) in
    let bags : t.bags ≡ all_bags (a.front ++ a.back) = ap (λ (t : Flat). t.bags) same ∙ none-among a.front a.back in
    let without : remove owners i ≡ a.front ++ a.back =
    ap (λ os. remove os i) a.whole
    ∙ (ap (remove (a.front ++ [] ∷ a.back)) (sym a.before) ∙ removed a.front [] a.back) in
    record { same = (λ k. record { begins = begins k; bags = bags k }) ∙ ap flat_of (sym without) }

-- ---- the bags of one owner, the last one first

remove-take : {X : Type 0} (xs : List X) (n : ℕ) → suc n ≤ length xs → remove (take (suc n) xs) n ≡ take n xs
remove-take [] n h = absurd (omega arith)
remove-take (x ∷ xs) zero h = refl
remove-take (x ∷ xs) (suc n) h = ap (λ zs. x ∷ zs) (remove-take xs n (omega arith))

set-twice : {X : Type 0} (xs : List X) (i : ℕ) (x y : X) → set (set xs i x) i y ≡ set xs i y
set-twice [] i x y = refl
set-twice (z ∷ zs) zero x y = refl
set-twice (z ∷ zs) (suc i) x y = ap (λ ws. z ∷ ws) (set-twice zs i x y)

-- The first n bags of owner i remain.
pub record AreRemaining (owners new : List (List Bag)) (i n : ℕ) : Type 0 where
  pub gone : new ≡ changed owners i (λ bags. take n bags)
  pub within : IsSomeAnd (slice_get owners i) (λ (bags : List Bag). n ≤ length bags)

pub all_left : (owners : List (List Bag)) (i n : ℕ) → i < length owners
    → IfSome (slice_get owners i) (λ (bags : List Bag). n ≡ length bags) → AreRemaining owners owners i n
all_left owners i n h e =
    let (xs, there) = slice_get-found owners i h in
    let size : n ≡ length xs = subst (λ o. IfSome o (λ (bags : List Bag). n ≡ length bags)) there e in
    record {
      gone =
          sym
          (changed-found owners i (λ bags. take n bags) xs there
          ∙
          (ap (set owners i) (ap (λ m. take m xs) size ∙ take-length xs)
          ∙ slice_set_same owners i xs there));
      within = subst (λ o. IsSomeAnd o (λ (bags : List Bag). n ≤ length bags)) (sym there) (omega arith);
    }

pub one_fewer : (owners new next : List (List Bag)) (i n m : ℕ) → AreRemaining owners new i n → n ≡ suc m
    → next ≡ changed new i (λ bags. remove bags m) → AreRemaining owners next i m
one_fewer owners new next i n m l e f =
    let (xs, there, within) = found (λ (bags : List Bag). n ≤ length bags) (slice_get owners i) l.within in
    let now : slice_get new i ≡ Some (take n xs) =
    ap (λ os. slice_get os i) l.gone ∙ slice_get-changed owners i (λ bags. take n bags) xs there in
    let kept : remove (take n xs) m ≡ take m xs = ap (λ n. remove (take n xs) m) e ∙ remove-take xs m (omega arith) in
    record {
      gone =
          f
          ∙ (changed-found new i (λ bags. remove bags m) (take n xs) now
          ∙ (ap (λ os. set os i (remove (take n xs) m)) (l.gone ∙ changed-found owners i (λ bags. take n bags) xs there)
          ∙ (set-twice owners i (take n xs) (remove (take n xs) m)
          ∙ (ap (set owners i) kept ∙ sym (changed-found owners i (λ bags. take m bags) xs there)))));
      within = subst (λ o. IsSomeAnd o (λ (bags : List Bag). m ≤ length bags)) (sym there) (omega arith);
    }

pub last_left : (owners new : List (List Bag)) (i n m : ℕ) → AreRemaining owners new i n → n ≡ suc m → IsSome (bag_at new i m)
last_left owners new i n m l e =
    let (xs, there, within) = found (λ (bags : List Bag). n ≤ length bags) (slice_get owners i) l.within in
    let now : slice_get new i ≡ Some (take n xs) =
    ap (λ os. slice_get os i) l.gone ∙ slice_get-changed owners i (λ bags. take n bags) xs there in
    let (b, found) = slice_get-found (take n xs) m (omega (arith, length-take n xs)) in
    ap (λ o. is_some (option_and_then (λ (bags : List Bag). slice_get bags m) o)) now ∙ ap is_some found

pub none_left : (owners new : List (List Bag)) (i n : ℕ) → i < length owners → AreRemaining owners new i n → n ≡ 0
    → new ≡ set owners i []
none_left owners new i n h l e =
    let (xs, there) = slice_get-found owners i h in
    l.gone ∙ (changed-found owners i (λ bags. take n bags) xs there ∙ ap (λ n. set owners i (take n xs)) e)

-- ---- an owner moved to the end and removed

remove-set : {X : Type 0} (xs : List X) (i : ℕ) (x : X) → remove (set xs i x) i ≡ remove xs i
remove-set [] i x = refl
remove-set (y ∷ ys) zero x = refl
remove-set (y ∷ ys) (suc i) x = ap (λ zs. y ∷ zs) (remove-set ys i x)

pub cut_last : (owners second third gone : List (List Bag)) (i j : ℕ) → i < length owners → j < length owners
    → second ≡ moved owners i j → third ≡ set second j [] → gone ≡ remove third j → gone ≡ remove owners i
cut_last owners second third gone i j h1 h2 e f g =
    let (xs, there) = slice_get-found owners i h1 in
    let size = length-remove owners i h1 in
    g
    ∙ (ap (λ os. remove os j) f
    ∙ (remove-set second j []
    ∙ (ap (λ os. remove os j) (e ∙ moved-found owners i j xs there)
    ∙ remove-insert (remove owners i) j xs (omega arith))))
