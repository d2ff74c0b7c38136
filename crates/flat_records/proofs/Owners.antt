-- The flat lists of owners, read back and changed.
use Rattle.std.proofs.Common.{◌≡◌, ℕ, ◌<◌, ◌≤◌, ◌+◌, ◌-◌, suc, List, [], ◌∷◌, ◌++◌, length, slice_get, set, Some}
use Rattle.std.proofs.Common.{refl, sym, subst, ◌∙◌, ap, get_or, append-nil, append_assoc, length-append, zero-add}
use Rattle.std.proofs.Common.{arith}
use Rattle.std.specs.Option.{IfSome}
use Rattle.std.proofs.lemmas.List.{take_at, drop_at, set_at, get_or_default}
use Rattle.std.proofs.lemmas.List.Concat.{flat_map-append}
use Rattle.base_numbered_lists.specs.Moved.{changed}
use Rattle.base_numbered_lists.proofs.Lists.{slice_get-found, changed-found}
use Rattle.flat_records.specs.Runs.{starts, changed_from}
use Rattle.flat_records.specs.Bags.{Bag}
use Rattle.flat_records.specs.Stored.{Counts}
use Rattle.flat_records.proofs.Starts.{end, at-starts, next-starts, length-starts, starts-replaced, starts-same}
use Rattle.flat_records.proofs.Starts.{changed_from-undone}
use Rattle.flat_records.proofs.TableLaws.{among}
use Rattle.flat_records.specs.Owned.{Flat, past_owner, all_bags, flat_of, owners_from, owners_of_records, owners_in}
use Rattle.flat_records.specs.Owned.{AreRead}
use Rattle.flat_records.specs.OwnersStored.{Stored}

-- ---- read back

first : (next at : ℕ) (xs : List Bag) (rest : List ℕ) (owners : List (List Bag)) (bags : List Bag)
    → next - at ≡ length xs → owners_from next rest bags ≡ owners
    → owners_from at (next ∷ rest) (xs ++ bags) ≡ xs ∷ owners
first next at xs rest owners bags n e =
    rw (n, take_at xs bags (length xs) refl, drop_at xs bags (length xs) refl) (ap (λ os. xs ∷ os) e)

back-from : (at : ℕ) (owners : List (List Bag)) (rest : List Bag)
    → owners_of_records (starts past_owner at owners) (all_bags owners ++ rest) ≡ owners
back-from at [] rest = refl
back-from at (xs ∷ []) rest =
    rw (append_assoc xs [] rest) (first (past_owner at xs) at xs [] [] rest (omega arith) refl)
back-from at (xs ∷ (ys ∷ zs)) rest =
    rw (append_assoc xs (all_bags (ys ∷ zs)) rest)
    (first (past_owner at xs) at xs (starts past_owner (past_owner (past_owner at xs) ys) zs) (ys ∷ zs)
    (all_bags (ys ∷ zs) ++ rest) (omega arith)
    (back-from (past_owner at xs) (ys ∷ zs) rest))

pub owners-back : (owners : List (List Bag)) → owners_in (flat_of owners) ≡ owners
owners-back owners =
    ap (owners_of_records (starts past_owner 0 owners)) (sym (append-nil (all_bags owners))) ∙ back-from 0 owners []

-- The lists are those of these owners.
pub record AreOf (t : Flat) (owners : List (List Bag)) : Type 0 where
  pub same : t ≡ flat_of owners

pub read : {t : Flat} {owners : List (List Bag)} → AreOf t owners → owners_in t ≡ owners
read {t} {owners} a = ap owners_in a.same ∙ owners-back owners

pub are_read : {t : Flat} {owners : List (List Bag)} → AreOf t owners → AreRead t
are_read a = a.same ∙ ap flat_of (sym (read a))

-- The fields of `self` are the lists of the owners of its value.
pub held : {t : Flat} {spare : Counts} {count : ℕ} {s : Stored} → AreRead t
    → record { owners = owners_in t; spare = spare; spare_owners = count } ≡ s → AreOf t s.owners
held are seen = record { same = are ∙ ap (λ (s : Stored). flat_of s.owners) seen }

-- ---- sizes

pub owners-end : (at : ℕ) (owners : List (List Bag)) → end past_owner at owners ≡ at + length (all_bags owners)
owners-end at [] = omega arith
owners-end at (xs ∷ os) =
    let h = owners-end (past_owner at xs) os in let e = length-append xs (all_bags os) in omega arith

pub begins_size : {t : Flat} {owners : List (List Bag)} → AreOf t owners → length t.begins ≡ length owners + 1
begins_size {t} {owners} a =
    ap (λ (t : Flat). length t.begins) a.same ∙ (length-starts past_owner 0 owners ∙ omega arith)

-- ---- one owner among the others

-- Where the bags of owner i begin.
pub record Begin (t : Flat) (owners : List (List Bag)) (i : ℕ) (xs : List Bag) : Type 0 where
  pub front : List (List Bag)
  pub back : List (List Bag)
  pub same : t ≡ flat_of (front ++ xs ∷ back)
  pub before : i ≡ length front
  pub at : get_or t.begins i 0 ≡ length (all_bags front)
  pub next : get_or t.begins (i + 1) 0 ≡ length (all_bags front) + length xs
  pub more : i + 1 < length t.begins
  pub bags : t.bags ≡ all_bags front ++ (xs ++ all_bags back)
  pub sent : (f : List Bag → List Bag) → changed owners i f ≡ front ++ f xs ∷ back

pub begin : {t : Flat} {owners : List (List Bag)} {xs : List Bag} → AreOf t owners → (i : ℕ)
    → slice_get owners i ≡ Some xs → Begin t owners i xs
begin {t} {owners} {xs} are i there =
    let a = among owners i xs there in
    let same : t ≡ flat_of (a.front ++ xs ∷ a.back) = are.same ∙ ap flat_of a.whole in
    let place : i + 1 ≡ suc (length a.front) = let before = a.before in omega arith in
    let size : length t.begins ≡ suc (length (a.front ++ xs ∷ a.back)) =
    ap (λ (t : Flat). length t.begins) same ∙ length-starts past_owner 0 (a.front ++ xs ∷ a.back) in
    let sizes = length-append a.front (xs ∷ a.back) in
    let before = a.before in
    let last : end past_owner 0 a.front ≡ length (all_bags a.front) =
    owners-end 0 a.front ∙ zero-add (length (all_bags a.front)) in
    record {
      front = a.front;
      back = a.back;
      same = same;
      before = sym a.before;
      at =
          ap (λ (t : Flat). get_or t.begins i 0) same
          ∙ (ap (λ n. get_or (starts past_owner 0 (a.front ++ xs ∷ a.back)) n 0) (sym a.before)
          ∙ (at-starts past_owner 0 0 a.front (xs ∷ a.back) ∙ last));
      next =
          ap (λ n. get_or t.begins n 0) place
          ∙ (ap (λ (t : Flat). get_or t.begins (suc (length a.front)) 0) same
          ∙ (next-starts past_owner 0 0 a.front xs a.back ∙ ap (λ n. n + length xs) last));
      more = omega arith;
      bags = ap (λ (t : Flat). t.bags) same ∙ flat_map-append (λ (bags : List Bag). bags) a.front (xs ∷ a.back);
      sent =
          λ f.
          changed-found owners i f xs there
          ∙ (ap (λ owners. set owners i (f xs)) a.whole ∙ set_at a.front xs a.back (f xs) i a.before);
    }

-- ---- requirements and results of indexing the starts

pub begin_there : {t : Flat} {owners : List (List Bag)} → AreOf t owners → {i n : ℕ} → i ≤ length owners
    → n ≡ length t.begins → i < n
begin_there a h e = let size = begins_size a in omega arith

pub begin_read : {t : Flat} {owners : List (List Bag)} → AreOf t owners → (i : ℕ) → i ≤ length owners → {at : ℕ}
    → at ≡ get_or t.begins i at → at ≡ get_or t.begins i 0
begin_read {t} a i h {at} e = let size = begins_size a in e ∙ get_or_default t.begins i at 0 (omega arith)

pub bags_between : {t : Flat} {owners : List (List Bag)} → AreOf t owners → (i : ℕ) → i < length owners
    → {first next : ℕ} → first ≡ get_or t.begins i first → next ≡ get_or t.begins (i + 1) next
    → (first ≤ next) × IfSome (slice_get owners i) (λ (bags : List Bag). next - first ≡ length bags)
bags_between {t} {owners} a i h {first} {next} e f =
    let (xs, there) = slice_get-found owners i h in
    let b = begin a i there in
    let at = begin_read a i (omega arith) e ∙ b.at in
    let past = begin_read a (i + 1) (omega arith) f ∙ b.next in
    let size : next - first ≡ length xs = omega arith in
    (omega arith, subst (λ o. IfSome o (λ (bags : List Bag). next - first ≡ length bags)) (sym there) size)

-- ---- f applied to the bags of one owner

module _ {t : Flat} {owners : List (List Bag)} {i : ℕ} {xs : List Bag} (b : Begin t owners i xs)
    (f : List Bag → List Bag) {new : List Bag} (whole : new ≡ all_bags b.front ++ (f xs ++ all_bags b.back)) where
  rebuilt : {begins : List ℕ} → begins ≡ starts past_owner 0 (b.front ++ f xs ∷ b.back)
      → AreOf (record { begins = begins; bags = new }) (changed owners i f)
  rebuilt e =
      let bags = whole ∙ sym (flat_map-append (λ (bags : List Bag). bags) b.front (f xs ∷ b.back)) in
      record { same = (λ j. record { begins = e j; bags = bags j }) ∙ ap flat_of (sym (b.sent f)) }

  place : i + 1 ≡ suc (length b.front)
  place = let before = b.before in omega arith

  -- As many bags.
  pub bags_kept : length (f xs) ≡ length xs → AreOf (record { begins = t.begins; bags = new }) (changed owners i f)
  bags_kept size =
      rebuilt
      (ap (λ (t : Flat). t.begins) b.same
      ∙ starts-same past_owner 0 b.front xs (f xs) b.back (λ m. ap (λ n. m + n) (sym size)))

  -- n more bags.
  pub bags_put : (n : ℕ) → length (f xs) ≡ length xs + n → {begins : List ℕ}
      → begins ≡ changed_from (i + 1) (λ at. at + n) t.begins
      → AreOf (record { begins = begins; bags = new }) (changed owners i f)
  bags_put n size e =
      rebuilt
      (e ∙ (ap (λ p. changed_from p (λ at. at + n) t.begins) place
      ∙ (ap (λ (t : Flat). changed_from (suc (length b.front)) (λ at. at + n) t.begins) b.same
      ∙ starts-replaced past_owner (λ at. at + n) (λ m x. omega arith) 0 b.front xs (f xs) b.back (λ m. omega arith))))

  -- n fewer bags.
  pub bags_cut : (n : ℕ) → length xs ≡ length (f xs) + n → {begins : List ℕ}
      → begins ≡ changed_from (i + 1) (λ at. at - n) t.begins
      → AreOf (record { begins = begins; bags = new }) (changed owners i f)
  bags_cut n size e =
      let back : starts past_owner 0 (b.front ++ xs ∷ b.back)
      ≡ changed_from (suc (length b.front)) (λ at. at + n) (starts past_owner 0 (b.front ++ f xs ∷ b.back)) =
      sym
      (starts-replaced past_owner (λ at. at + n) (λ m x. omega arith) 0 b.front (f xs) xs b.back
      (λ m. omega arith))
      in
      rebuilt
      (e ∙ (ap (λ p. changed_from p (λ at. at - n) t.begins) place
      ∙ (ap (λ (t : Flat). changed_from (suc (length b.front)) (λ at. at - n) t.begins) b.same
      ∙ (ap (changed_from (suc (length b.front)) (λ at. at - n)) back
      ∙ changed_from-undone (λ at. at + n) (λ at. at - n) (λ m. omega arith) (suc (length b.front))
      (starts past_owner 0 (b.front ++ f xs ∷ b.back))))))
