-- Ranges of lists, and changes of them.
use Rattle.std.proofs.Common.{◌≡◌, ℕ, ◌<◌, ◌≤◌, ◌-◌, ◌+◌, ◌⊎◌, inl, inr, suc, zero, List, [], ◌∷◌, ◌++◌, length, map}
use Rattle.std.proofs.Common.{take, drop, insert, remove, slice_get, Some, refl, sym, subst, ◌∙◌, ap, arith}
use Rattle.std.proofs.lemmas.List.{append-nil, drop-drop, drop-take, drop_all, length-drop, length-take-le}
use Rattle.std.proofs.lemmas.List.{take_rest, with_items_is}
use Rattle.std.proofs.lemmas.Option.{slice_get_read}
use Rattle.std.proofs.Math.ListN.{get_or}
use Rattle.std.specs.Prelude.{vec_len}
use Rattle.std.specs.Vec.{with_items}
use Rattle.std.specs.Global.{Vec}
use Rattle.std.proofs.Math.Seq.{drop-append-add}
use borrow.Rule.Slice.PartMut.{mid_of, post_of, put_mid, same_len_mid}
use Rattle.std.specs.Prelude.{IfSome}
use Rattle.base_numbered_lists.specs.Moved.{changed_within}

-- A change after the first n members.
pub drop-insert : {X : Type 0} (n : ℕ) (xs : List X) (i k : ℕ) (x : X) → k ≡ n + i → n ≤ length xs
    → drop n (insert xs k x) ≡ insert (drop n xs) i x
drop-insert zero xs i k x e h = let same : k ≡ i = omega arith in ap (λ m. insert xs m x) same
drop-insert (suc n) [] i k x e h = absurd (omega arith)
drop-insert (suc n) (y ∷ ys) i zero x e h = absurd (omega arith)
drop-insert (suc n) (y ∷ ys) i (suc k) x e h = drop-insert n ys i k x (omega arith) (omega arith)

pub drop-remove : {X : Type 0} (n : ℕ) (xs : List X) (i k : ℕ) → k ≡ n + i → n ≤ length xs
    → drop n (remove xs k) ≡ remove (drop n xs) i
drop-remove zero xs i k e h = let same : k ≡ i = omega arith in ap (λ m. remove xs m) same
drop-remove (suc n) [] i k e h = absurd (omega arith)
drop-remove (suc n) (y ∷ ys) i zero e h = absurd (omega arith)
drop-remove (suc n) (y ∷ ys) i (suc k) e h = drop-remove n ys i k (omega arith) (omega arith)

pub slice_get-drop : {X : Type 0} (n : ℕ) (xs : List X) (i k : ℕ) → k ≡ n + i → n ≤ length xs
    → slice_get (drop n xs) i ≡ slice_get xs k
slice_get-drop zero xs i k e h = let same : i ≡ k = omega arith in ap (slice_get xs) same
slice_get-drop (suc n) [] i k e h = absurd (omega arith)
slice_get-drop (suc n) (y ∷ ys) i zero e h = absurd (omega arith)
slice_get-drop (suc n) (y ∷ ys) i (suc k) e h = slice_get-drop n ys i k (omega arith) (omega arith)

-- A range, as a slice has it.
pub part_is : {X : Type 0} (xs : List X) (a b : ℕ) → a ≤ b → take (b - a) (drop a xs) ≡ drop a (take b xs)
part_is xs a b h =
    let size : a + (b - a) ≡ b = omega arith in sym (drop-take a (b - a) xs) ∙ ap (λ n. drop a (take n xs)) size

-- The members after the first n, changed as a whole.
pub tail_changed : {X : Type 0} (n m : ℕ) (xs ys : List X) → n ≤ length xs
    → drop (n + m) (put_mid n (length xs - n) xs ys) ≡ drop m ys
tail_changed n m xs ys h =
    let first = length-take-le n xs h in
    let rest : post_of n (length xs - n) xs ≡ [] =
    drop_all (length xs - n) (drop n xs) (rw (length-drop n xs) (omega arith)) in
    ap (λ k. drop (k + m) (put_mid n (length xs - n) xs ys)) (sym first)
    ∙ (drop-append-add (take n xs) (ys ++ post_of n (length xs - n) xs) m
    ∙ ap (drop m) (ap (λ zs. ys ++ zs) rest ∙ append-nil ys))

-- The same for the elements of a Vec.
pub written_after : {X : Type 0} (v : Vec X) (xs ys : List X) (n m : ℕ) → xs ≡ v.items → length xs ≡ vec_len v
    → n ≤ length v.items → length ys ≡ length (mid_of n (length xs - n) xs)
    → drop (n + m) (with_items v (put_mid n (length xs - n) xs ys)).items ≡ drop m ys
written_after v xs ys n m is size h long =
    ap (drop (n + m))
    (with_items_is v (put_mid n (length xs - n) xs ys) (same_len_mid n (length xs - n) xs ys long ∙ size))
    ∙ tail_changed n m xs ys (subst (λ zs. n ≤ length zs) (sym is) h)

pub written_size : {X : Type 0} (v : Vec X) (xs ys : List X) (n : ℕ) → length xs ≡ vec_len v
    → length ys ≡ length (mid_of n (length xs - n) xs)
    → length (with_items v (put_mid n (length xs - n) xs ys)).items ≡ length xs
written_size v xs ys n size long =
    let same = same_len_mid n (length xs - n) xs ys long in
    ap length (with_items_is v (put_mid n (length xs - n) xs ys) (same ∙ size)) ∙ same

-- All members after the first n, as they are written.
pub all_written : {X : Type 0} (v : Vec X) (xs ys : List X) (n : ℕ) → xs ≡ v.items → length xs ≡ vec_len v
    → n ≤ length v.items → length ys ≡ length (mid_of n (length xs - n) xs)
    → drop n (with_items v (put_mid n (length xs - n) xs ys)).items ≡ ys
all_written v xs ys n is size h long =
    let at : n ≡ n + 0 = omega arith in
    ap (λ k. drop k (with_items v (put_mid n (length xs - n) xs ys)).items) at
    ∙ written_after v xs ys n 0 is size h long

-- A mutable borrow of members whose tail after the first n is zs.
pub borrowed_after : {X : Type 0} (n : ℕ) (xs items zs : List X) → xs ≡ items → drop n items ≡ zs
    → mid_of n (length xs - n) xs ≡ zs
borrowed_after n xs items zs is view = take_rest xs n ∙ (ap (drop n) is ∙ view)

-- A member is put in the place of the last of the first b.
pub placed_after : {X : Type 0} (v : Vec X) (xs later : List X) (b i : ℕ) (x : X) (whole : List X) → 0 < b
    → b ≤ length v.items
    → xs ≡ v.items → length xs ≡ vec_len v → drop b v.items ≡ whole
    → length later ≡ length (mid_of (b - 1) (length xs - (b - 1)) xs)
    → later ≡ insert (drop 1 (mid_of (b - 1) (length xs - (b - 1)) xs)) i x
    → drop (b - 1) (with_items v (put_mid (b - 1) (length xs - (b - 1)) xs later)).items ≡ insert whole i x
placed_after v xs later b i x whole some h is size view long put =
    let one : b - 1 + 1 ≡ b = omega arith in
    let within : b - 1 ≤ length v.items = omega arith in
    let rest : drop 1 (mid_of (b - 1) (length xs - (b - 1)) xs) ≡ whole =
    ap (drop 1) (take_rest xs (b - 1))
    ∙ (drop-drop 1 (b - 1) xs ∙ (ap (λ k. drop k xs) one ∙ (ap (drop b) is ∙ view))) in
    all_written v xs later (b - 1) is size within long ∙ (put ∙ ap (λ zs. insert zs i x) rest)

-- A member is inserted after the first b.
pub inserted_after : {X : Type 0} (xs items : List X) (b i : ℕ) (x : X) (whole : List X) → b ≤ length xs
    → drop b xs ≡ whole → items ≡ insert xs (b + i) x → drop b items ≡ insert whole i x
inserted_after xs items b i x whole h view put =
    ap (drop b) put ∙ (drop-insert b xs i (b + i) x refl h ∙ ap (λ zs. insert zs i x) view)

-- The member at an index after the first n.
pub found_after : {X : Type 0} (n : ℕ) (xs zs : List X) (i : ℕ) (x : X) → drop n xs ≡ zs → n ≤ length xs
    → i < length zs → x ≡ get_or xs (n + i) x → slice_get zs i ≡ Some x
found_after n xs zs i x view h l e =
    let size : length xs - n ≡ length zs = sym (length-drop n xs) ∙ ap length view in
    ap (λ ys. slice_get ys i) (sym view)
    ∙ (slice_get-drop n xs i (n + i) refl h ∙ slice_get_read xs (length xs) (n + i) x refl (omega arith) e)

-- If f keeps the members outside a range, changing the range changes all.
pub all_changed : {X : Type 0} (f : X → X) (xs : List X) (a b : ℕ) → a ≤ b
    → ((i : ℕ) → (i < a) ⊎ (b ≤ i) → IfSome (slice_get xs i) (λ x. f x ≡ x))
    → changed_within a b f xs ≡ map f xs
all_changed f [] zero zero h stays = refl
all_changed f [] zero (suc b) h stays = refl
all_changed f [] (suc a) zero h stays = refl
all_changed f [] (suc a) (suc b) h stays = refl
all_changed f (x ∷ xs) (suc a) zero h stays = absurd (omega arith)
all_changed f (x ∷ xs) zero zero h stays =
    let rest = all_changed f xs zero zero (omega arith) (λ i o. stays (suc i) (inr (omega arith))) in
    λ i. sym (stays zero (inr (omega arith))) i ∷ rest i
all_changed f (x ∷ xs) zero (suc b) h stays =
    ap (λ zs. f x ∷ zs)
    (all_changed f xs zero b (omega arith)
    (λ i o. stays (suc i) (elim o [ inl l ↦ absurd (omega arith) | inr r ↦ inr (omega arith) ])))
all_changed f (x ∷ xs) (suc a) (suc b) h stays =
    let rest =
    all_changed f xs a b (omega arith)
    (λ i o. stays (suc i) (elim o [ inl l ↦ inl (omega arith) | inr r ↦ inr (omega arith) ])) in
    λ i. sym (stays zero (inl (omega arith))) i ∷ rest i
