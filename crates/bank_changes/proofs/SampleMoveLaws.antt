-- Several moves of samples: as moves of the list, and then renumberings.
use Rattle.std.proofs.Common.{◌≡◌, ◌++◌, ◌∷◌, [], ◌<◌, ◌≤◌, ◌+◌, suc, ℕ, List, length, map, take, drop, get_or}
use Rattle.std.proofs.Common.{slice_get, Option, Some, None, refl, sym, ◌∙◌, ap, subst, arith, append_assoc, drop-cons}
use Rattle.std.proofs.Math.Seq.{take-append_seam}
use Rattle.std.proofs.lemmas.List.{drop_all, append-nil, map_more, map_push, length-map}
use Rattle.std.proofs.lemmas.List.Elements.{All-from_recursion}
use Rattle.std.proofs.lemmas.Option.{slice_get-get_or}
use Rattle.std.specs.Prelude.{All, IfSome}
use Rattle.std.specs.List.{AllByRecursion}
use Rattle.std.specs.Option.{option_map_or}
use Rattle.base_numbered_lists.specs.declared.renumbering.Renumbering.TheVariants.{Move}
use Rattle.base_numbered_lists.specs.Moved.{moved}
use Rattle.base_numbered_lists.proofs.Lists.{slice_get-found, slice_get-within, slice_get-map, length-moved, map-moved}
use Rattle.bank_parts.specs.declared.parts.Sample.{Sample}
use Rattle.bank_parts.specs.declared.parts.Parts.{Parts}
use Rattle.bank_parts.specs.Renumbered.{sample_renumbered, samples_renumbered}
use Rattle.bank_parts.specs.Sound.{IsSound}
use Rattle.bank_parts.specs.Valid.{IsValid}
use Rattle.bank_validity.specs.Limits.{totals_of}
use Rattle.bank_changes.specs.declared.sample_moves.SampleMove.{SampleMove}
use Rattle.bank_changes.specs.Samples.{sample_moved}
use Rattle.bank_changes.specs.SampleMoves.{IsMove, AreMoves, samples_moved, name_at, moved_names, list_moved, names_along}
use Rattle.bank_changes.specs.SampleMoves.{IsOrder}
use Rattle.bank_changes.proofs.Moves.{all_moved}
use Rattle.bank_changes.proofs.SampleLaws.{length-sample_moved, moved_sound, moved_valid, totals-moved}

-- ---- lists

-- moves within a list are within each list of its length
stay : {n m : ℕ} (ms : List SampleMove) → m ≡ n → AreMoves n ms → AreMoves m ms
stay ms e h = subst (λ k. AreMoves k ms) (sym e) h

module _ {X : Type 0} where
  pub length-list_moved : (xs : List X) (ms : List SampleMove) → AreMoves (length xs) ms
      → length (list_moved xs ms) ≡ length xs
  length-list_moved xs [] h = refl
  length-list_moved xs (m ∷ ms) h =
      let e = length-moved xs m.from m.to h.0.from h.0.to in
      length-list_moved (moved xs m.from m.to) ms (stay ms e h.1) ∙ e

  pub all_list_moved : (P : X → Type 0) (xs : List X) (ms : List SampleMove) → AreMoves (length xs) ms
      → AllByRecursion P xs → AllByRecursion P (list_moved xs ms)
  all_list_moved P xs [] h p = p
  all_list_moved P xs (m ∷ ms) h p =
      let e = length-moved xs m.from m.to h.0.from h.0.to in
      all_list_moved P (moved xs m.from m.to) ms (stay ms e h.1) (all_moved P xs m.from m.to h.0.from p)

pub map-list_moved : {X Y : Type 0} (f : X → Y) (xs : List X) (ms : List SampleMove) → AreMoves (length xs) ms
    → map f (list_moved xs ms) ≡ list_moved (map f xs) ms
map-list_moved f xs [] h = refl
map-list_moved f xs (m ∷ ms) h =
    let e = length-moved xs m.from m.to h.0.from h.0.to in
    map-list_moved f (moved xs m.from m.to) ms (stay ms e h.1)
    ∙ ap (λ ys. list_moved ys ms) (map-moved f xs m.from m.to h.0.from)

-- ---- names

pub names_along-map : (f : Sample → Sample) → ((s : Sample) → (f s).name ≡ s.name) → (ss : List Sample)
    (ms : List SampleMove) → AreMoves (length ss) ms → names_along (map f ss) ms ≡ names_along ss ms
names_along-map f same ss [] h = refl
names_along-map f same ss (m ∷ ms) h =
    let (s, e) = slice_get-found ss m.from h.0.from in
    let there = slice_get-map f ss m.from s e in
    let first : name_at (map f ss) m.from ≡ name_at ss m.from =
    ap (λ o. option_map_or (λ (s : Sample). s.name) o []) there ∙ same s
    ∙ sym (ap (λ o. option_map_or (λ (s : Sample). s.name) o []) e) in
    let size = length-moved ss m.from m.to h.0.from h.0.to in
    let rest : names_along (moved (map f ss) m.from m.to) ms ≡ names_along (moved ss m.from m.to) ms =
    ap (λ ts. names_along ts ms) (sym (map-moved f ss m.from m.to h.0.from))
    ∙ names_along-map f same (moved ss m.from m.to) ms (stay ms size h.1) in
    λ i. first i ∷ rest i

-- the names in the list of samples are those in the bank
pub names_are : (b : Parts) (ms : List SampleMove) → AreMoves (length b.samples) ms
    → names_along b.samples ms ≡ moved_names b ms
names_are b [] h = refl
names_are b (m ∷ ms) h =
    let size = length-moved b.samples m.from m.to h.0.from h.0.to in
    let sent = length-sample_moved b m.from m.to h.0.from h.0.to in
    ap (λ ns. name_at b.samples m.from ∷ ns)
    (sym
    (names_along-map (sample_renumbered (Move m.from m.to)) (λ s. refl) (moved b.samples m.from m.to) ms
    (stay ms size h.1))
    ∙ names_are (sample_moved b m.from m.to) ms (stay ms sent h.1))

-- ---- renumbering after all moves of the list

-- targets and links are renumbered for each move
abbrev pub renumbered_along : Parts → List SampleMove → Parts
renumbered_along b [] = b
renumbered_along b (m ∷ ms) = renumbered_along (samples_renumbered (Move m.from m.to) b) ms

pub moves_are : (b : Parts) (ms : List SampleMove) → AreMoves (length b.samples) ms
    → renumbered_along (let t : Parts = record b { samples = list_moved b.samples ms } in t) ms ≡ samples_moved b ms
moves_are b [] h = refl
moves_are b (m ∷ ms) h =
    let size = length-moved b.samples m.from m.to h.0.from h.0.to in
    let sent = length-sample_moved b m.from m.to h.0.from h.0.to in
    let next : Parts = sample_moved b m.from m.to in
    ap (λ (ss : List Sample). renumbered_along (let t : Parts = record next { samples = ss } in t) ms)
    (map-list_moved (sample_renumbered (Move m.from m.to)) (moved b.samples m.from m.to) ms (stay ms size h.1))
    ∙ moves_are next ms (stay ms sent h.1)

-- ---- the next move

next : {X : Type 0} (xs : List X) (i : ℕ) (d : X) → i < length xs → drop i xs ≡ get_or xs i d ∷ drop (i + 1) xs
next xs i d lt = drop-cons xs i d lt ∙ (let a : i + 1 ≡ suc i = omega arith in rw a refl)

-- ---- orders

abbrev first_of : {X : Type 0} → X → List X → X
first_of d [] = d
first_of d (x ∷ xs) = x

abbrev rest_of : {X : Type 0} → List X → List X
rest_of [] = []
rest_of (x ∷ xs) = xs

abbrev member_of : {X : Type 0} → X → Option X → X
member_of d None = d
member_of d (Some x) = x

abbrev members_of : {X : Type 0} → List (Option X) → List X
members_of [] = []
members_of (None ∷ os) = members_of os
members_of (Some x ∷ os) = x ∷ members_of os

members_are : {X : Type 0} (xs : List X) → members_of (map Some xs) ≡ xs
members_are [] = refl
members_are (x ∷ xs) = ap (λ ys. x ∷ ys) (members_are xs)

module _ {X : Type 0} where
  -- an order arranges one list
  pub one_arranged : (xs ys zs : List X) (order : List ℕ) → IsOrder xs order ys → IsOrder xs order zs → ys ≡ zs
  one_arranged xs ys zs order h k = sym (members_are ys) ∙ ap members_of (sym h ∙ k) ∙ members_are zs

  indexes_within : (xs ys : List X) (order : List ℕ) → IsOrder xs order ys
      → AllByRecursion (λ k. k < length xs) order
  indexes_within xs ys [] h = tt
  indexes_within xs [] (k ∷ order) h = cc
  indexes_within xs (y ∷ ys) (k ∷ order) h = (
    slice_get-within xs k y (ap (first_of (Some y)) h),
    indexes_within xs ys order (ap rest_of h),
  )

  pub all_indexes : (xs ys : List X) (order : List ℕ) → IsOrder xs order ys → All (λ k. k < length xs) order
  all_indexes xs ys order h = All-from_recursion (λ k. k < length xs) order (indexes_within xs ys order h)

  pub length-order : (xs ys : List X) (order : List ℕ) → IsOrder xs order ys → length order ≡ length ys
  length-order xs ys order h = sym (length-map order (slice_get xs)) ∙ ap length h ∙ length-map ys Some

  -- the first order, one index more
  pub order_more : (xs : List X) (order : List ℕ) (i : ℕ) → i < length xs → IsOrder xs order (take i xs)
      → IsOrder xs (order ++ i ∷ []) (take (i + 1) xs)
  order_more xs order i lt h =
      let (x, e) = slice_get-found xs i lt in
      map_push (slice_get xs) order i ∙ ap (λ os. os ++ slice_get xs i ∷ []) h
      ∙ ap (λ o. map Some (take i xs) ++ o ∷ []) (slice_get-get_or xs i x lt) ∙ sym (map_more Some xs i x lt)

  -- one copy more
  pub copied_more : (xs ys : List X) (order : List ℕ) (k d : ℕ) (x : X) → k < length order
      → slice_get xs (get_or order k d) ≡ Some x → IsOrder xs (take k order) ys
      → IsOrder xs (take (k + 1) order) (ys ++ x ∷ [])
  copied_more xs ys order k d x lt e h =
      map_more (slice_get xs) order k d lt ∙ ap (λ os. os ++ slice_get xs (get_or order k d) ∷ []) h
      ∙ ap (λ o. map Some ys ++ o ∷ []) e ∙ sym (map_push Some ys x)

  order_moved : (xs ys : List X) (order : List ℕ) (i j : ℕ) → i < length ys → IsOrder xs order ys
      → IsOrder xs (moved order i j) (moved ys i j)
  order_moved xs ys order i j lt h =
      map-moved (slice_get xs) order i j (subst (λ n. i < n) (sym (length-order xs ys order h)) lt)
      ∙ ap (λ os. moved os i j) h ∙ sym (map-moved Some ys i j lt)

-- what the slice of a vector of indexes becomes, as the vector
pub order_in_vec : {X : Type 0} (xs : List X) (ms : List SampleMove) (old new : List ℕ) (n : ℕ)
    → AreMoves (length xs) ms → n ≡ length old → IsOrder xs old xs → IsOrder xs new (list_moved xs ms)
    → IsOrder xs (take n (new ++ drop (length new) old)) (list_moved xs ms)
order_in_vec xs ms old new n h is first last =
    let size : length new ≡ n =
    length-order xs (list_moved xs ms) new last ∙ length-list_moved xs ms h ∙ sym (length-order xs xs old first) ∙ sym is
    in
    let whole : take n (new ++ drop (length new) old) ≡ new =
    ap (λ k. take k (new ++ drop (length new) old)) (sym size) ∙ take-append_seam new (drop (length new) old) in
    subst (λ ks. IsOrder xs ks (list_moved xs ms)) (sym whole) last

-- the name of the sample whose index is moved
name_found : (ss now : List Sample) (order : List ℕ) (i : ℕ) (name : List ℕ) → i < length now → IsOrder ss order now
    → IfSome (slice_get order i) (λ k. IfSome (slice_get ss k) (λ (s : Sample). name ≡ s.name)) → name ≡ name_at now i
name_found ss now order i name lt h is =
    let (k, found) = slice_get-found order i (subst (λ n. i < n) (sym (length-order ss now order h)) lt) in
    let (s, there) = slice_get-found now i lt in
    let both : Some (slice_get ss k) ≡ Some (Some s) =
    sym (slice_get-map (slice_get ss) order i k found) ∙ ap (λ os. slice_get os i) h ∙ slice_get-map Some now i s there
    in
    let one : slice_get ss k ≡ Some s = ap (member_of None) both in
    let at = subst (λ o. IfSome o (λ k. IfSome (slice_get ss k) (λ (s : Sample). name ≡ s.name))) found is in
    let this : name ≡ s.name = subst (λ o. IfSome o (λ (s : Sample). name ≡ s.name)) one at in
    this ∙ sym (ap (λ o. option_map_or (λ (s : Sample). s.name) o []) there)

-- ---- the loop that moves indexes

-- the indexes and the names after the moves so far
pub record IsNamed (ss : List Sample) (order : List ℕ) (names : List (List ℕ)) (all rest : List SampleMove)
    : Type 0 where
  pub now : List Sample
  pub is_order : IsOrder ss order now
  pub within : AreMoves (length now) rest
  pub size : length now ≡ length ss
  pub named : names_along ss all ≡ names ++ names_along now rest
  pub listed : list_moved ss all ≡ list_moved now rest

pub named_start : (ss : List Sample) (order : List ℕ) (names : List (List ℕ)) (all : List SampleMove)
    → IsOrder ss order ss → AreMoves (length ss) all → names ≡ [] → IsNamed ss order names all all
named_start ss order names all h within none = record {
  now = ss;
  is_order = h;
  within = within;
  size = refl;
  named = ap (λ ns. ns ++ names_along ss all) (sym none);
  listed = refl;
}

pub next_named : (ss : List Sample) (order : List ℕ) (names : List (List ℕ)) (all : List SampleMove) (i : ℕ)
    (d : SampleMove) → IsNamed ss order names all (drop i all) → i < length all
    → IsNamed ss order names all (get_or all i d ∷ drop (i + 1) all)
next_named ss order names all i d f lt = subst (IsNamed ss order names all) (next all i d lt) f

pub next_within : (ss : List Sample) (order : List ℕ) (names : List (List ℕ)) (all rest : List SampleMove)
    (m : SampleMove) → IsNamed ss order names all (m ∷ rest) → IsMove (length order) m
next_within ss order names all rest m f =
    subst (λ n. IsMove n m) (sym (length-order ss f.now order f.is_order)) f.within.0

pub named_on : (ss : List Sample) (order later : List ℕ) (names : List (List ℕ)) (all rest : List SampleMove)
    (m : SampleMove) (name : List ℕ) → IsNamed ss order names all (m ∷ rest) → later ≡ moved order m.from m.to
    → IfSome (slice_get order m.from) (λ k. IfSome (slice_get ss k) (λ (s : Sample). name ≡ s.name))
    → IsNamed ss later (names ++ name ∷ []) all rest
named_on ss order later names all rest m name f change is =
    let m_in = f.within.0 in
    let size = length-moved f.now m.from m.to m_in.from m_in.to in
    let found = name_found ss f.now order m.from name m_in.from f.is_order is in
    let others : List (List ℕ) = names_along (moved f.now m.from m.to) rest in
    record {
      now = moved f.now m.from m.to;
      is_order =
          subst (λ ks. IsOrder ss ks (moved f.now m.from m.to)) (sym change)
          (order_moved ss f.now order m.from m.to m_in.from f.is_order);
      within = stay rest size f.within.1;
      size = size ∙ f.size;
      named =
          f.named ∙ ap (λ n. names ++ n ∷ others) (sym found) ∙ sym (append_assoc names (name ∷ []) others);
      listed = f.listed;
    }

pub named_end : (ss : List Sample) (order : List ℕ) (names : List (List ℕ)) (all : List SampleMove) (i : ℕ)
    → IsNamed ss order names all (drop i all) → length all ≤ i
    → IsOrder ss order (list_moved ss all) × (names ≡ names_along ss all)
named_end ss order names all i f over =
    let none = drop_all i all over in (
      subst (IsOrder ss order) (sym (f.listed ∙ ap (λ rest. list_moved f.now rest) none)) f.is_order,
      sym (f.named ∙ ap (λ rest. names ++ names_along f.now rest) none ∙ append-nil names),
    )

-- ---- the whole bank

pub arranged_moved : (b : Parts) (ms : List SampleMove) (arranged : List Sample) → AreMoves (length b.samples) ms
    → arranged ≡ list_moved b.samples ms
    → renumbered_along (let t : Parts = record b { samples = arranged } in t) ms ≡ samples_moved b ms
arranged_moved b ms arranged h is =
    ap (λ (ss : List Sample). renumbered_along (let t : Parts = record b { samples = ss } in t) ms) is
    ∙ moves_are b ms h

pub samples_moved_sound : (b : Parts) (ms : List SampleMove) → AreMoves (length b.samples) ms → IsSound b
    → IsSound (samples_moved b ms)
samples_moved_sound b [] h s = s
samples_moved_sound b (m ∷ ms) h s =
    samples_moved_sound (sample_moved b m.from m.to) ms
    (stay ms (length-sample_moved b m.from m.to h.0.from h.0.to) h.1) (moved_sound b m.from m.to h.0.from h.0.to s)

pub totals-samples_moved : (b : Parts) (ms : List SampleMove) → AreMoves (length b.samples) ms
    → totals_of (samples_moved b ms) ≡ totals_of b
totals-samples_moved b [] h = refl
totals-samples_moved b (m ∷ ms) h =
    totals-samples_moved (sample_moved b m.from m.to) ms
    (stay ms (length-sample_moved b m.from m.to h.0.from h.0.to) h.1) ∙ totals-moved b m.from m.to h.0.from h.0.to

-- ---- moves one by one

-- the moves so far are done, their names are listed, and the rest is within the bank
pub record IsMovedSoFar (first now : Parts) (names : List (List ℕ)) (all rest : List SampleMove) : Type 0 where
  pub valid : IsValid now
  pub within : AreMoves (length now.samples) rest
  pub named : moved_names first all ≡ names ++ moved_names now rest
  pub same : samples_moved first all ≡ samples_moved now rest

pub so_far_start : (b : Parts) (names : List (List ℕ)) (all : List SampleMove) → IsValid b
    → AreMoves (length b.samples) all → names ≡ [] → IsMovedSoFar b b names all all
so_far_start b names all v h none = record {
  valid = v;
  within = h;
  named = ap (λ ns. ns ++ moved_names b all) (sym none);
  same = refl;
}

pub next_so_far : (first now : Parts) (names : List (List ℕ)) (all : List SampleMove) (i : ℕ) (d : SampleMove)
    → IsMovedSoFar first now names all (drop i all) → i < length all
    → IsMovedSoFar first now names all (get_or all i d ∷ drop (i + 1) all)
next_so_far first now names all i d f lt = subst (IsMovedSoFar first now names all) (next all i d lt) f

pub so_far_on : (first now later : Parts) (names more : List (List ℕ)) (all rest : List SampleMove) (m : SampleMove)
    (name : List ℕ) → IsMovedSoFar first now names all (m ∷ rest) → later ≡ sample_moved now m.from m.to
    → IfSome (slice_get now.samples m.from) (λ (s : Sample). name ≡ s.name) → more ≡ names ++ name ∷ []
    → IsMovedSoFar first later more all rest
so_far_on first now later names more all rest m name f change is listed =
    let from = f.within.0.from in
    let to = f.within.0.to in
    let (s, e) = slice_get-found now.samples m.from from in
    let this : name ≡ s.name = subst (λ o. IfSome o (λ (s : Sample). name ≡ s.name)) e is in
    let found : name ≡ name_at now.samples m.from =
    this ∙ sym (ap (λ o. option_map_or (λ (s : Sample). s.name) o []) e) in
    let others : List (List ℕ) = moved_names (sample_moved now m.from m.to) rest in
    subst (λ ns. IsMovedSoFar first later ns all rest) (sym listed)
    (subst (λ (b : Parts). IsMovedSoFar first b (names ++ name ∷ []) all rest) (sym change)
    (record {
      valid = moved_valid now m.from m.to from to f.valid;
      within = stay rest (length-sample_moved now m.from m.to from to) f.within.1;
      named =
          f.named ∙ ap (λ n. names ++ n ∷ others) (sym found) ∙ sym (append_assoc names (name ∷ []) others);
      same = f.same;
    }))

pub so_far_end : (first now : Parts) (names : List (List ℕ)) (all : List SampleMove) (i : ℕ)
    → IsMovedSoFar first now names all (drop i all) → length all ≤ i
    → (now ≡ samples_moved first all) × (names ≡ moved_names first all)
so_far_end first now names all i f over =
    let none = drop_all i all over in (
      sym (f.same ∙ ap (λ rest. samples_moved now rest) none),
      sym (f.named ∙ ap (λ rest. names ++ moved_names now rest) none ∙ append-nil names),
    )
