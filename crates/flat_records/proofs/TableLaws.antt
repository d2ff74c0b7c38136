-- The records of bags, read back and changed.
use Rattle.std.proofs.Common.{◌≡◌, ℕ, ◌<◌, ◌≤◌, ◌+◌, ◌-◌, suc, zero, List, [], ◌∷◌, ◌++◌, length, insert, remove}
use Rattle.std.proofs.Common.{slice_get, Some, refl, sym, ◌∙◌, ap, take, drop, get_or, set, append_assoc}
use Rattle.std.proofs.Common.{length-append, zero-add, add-zero, arith}
use Rattle.std.proofs.lemmas.List.{take_at, drop_at, set_at, length-set, length-take-le, take-append-drop}
use Rattle.std.proofs.lemmas.List.{get_or_default}
use Rattle.base_numbered_lists.specs.Moved.{changed}
use Rattle.base_numbered_lists.proofs.Lists.{changed-found}
use Rattle.modulators.specs.declared.modulator.Modulator.{Modulator}
use Rattle.flat_records.specs.Runs.{starts, changed_from, put, cut}
use Rattle.flat_records.specs.Bags.{Bag, past_bag, gens_in, mods_in, no_modulator, Tables, tables_of, no_bag}
use Rattle.flat_records.specs.Bags.{bags_from, bags_of_records, bags_in, AreRead, with_gens, with_mods}
use Rattle.flat_records.specs.Raised.{raised, lowered}
use Rattle.flat_records.specs.Stored.{Counts, Stored}
use Rattle.std.proofs.lemmas.Option.{get_or_from_slice_get}
use Rattle.flat_records.proofs.Starts.{end, length-starts, starts-end}
use Rattle.flat_records.proofs.Starts.{flat-among, at-starts, next-starts, starts-replaced}
use Rattle.flat_records.proofs.Starts.{starts-same, starts-put, starts-cut, changed_from-undone, length-put}
use Rattle.flat_records.proofs.Starts.{length-cut, flat-put, flat-cut, flat-set, flat-none, flat-kept}

-- ---- read back

-- n and m are the numbers of records of the first bag.
first : (next : ℕ × ℕ) (b : Bag) (rest : List (ℕ × ℕ)) (bags : List Bag) (gens : List (ℕ × ℕ))
    (mods : List Modulator) (at : ℕ × ℕ)
    → next.0 - at.0 ≡ length b.gens → next.1 - at.1 ≡ length b.mods → bags_from next rest gens mods ≡ bags
    → bags_from at (next ∷ rest) (b.gens ++ gens) (b.mods ++ mods) ≡ b ∷ bags
first next b rest bags gens mods at g m e =
    rw (
      g,
      m,
      take_at b.gens gens (length b.gens) refl,
      take_at b.mods mods (length b.mods) refl,
      drop_at b.gens gens (length b.gens) refl,
      drop_at b.mods mods (length b.mods) refl,
    )
    (ap (λ bs. b ∷ bs) e)

back-from : (at : ℕ × ℕ) (bags : List Bag) (gens : List (ℕ × ℕ)) (mods : List Modulator)
    → bags_of_records (starts past_bag at bags) (gens_in bags ++ gens) (mods_in bags ++ mods) ≡ bags
back-from at [] gens mods = refl
back-from at (b ∷ []) gens mods =
    rw (append_assoc b.gens [] gens, append_assoc b.mods [] mods)
    (first (past_bag at b) b [] [] gens mods at (omega arith) (omega arith) refl)
back-from at (b ∷ (c ∷ bs)) gens mods =
    rw (append_assoc b.gens (gens_in (c ∷ bs)) gens, append_assoc b.mods (mods_in (c ∷ bs)) mods)
    (first (past_bag at b) b (starts past_bag (past_bag (past_bag at b) c) bs) (c
    ∷ bs) (gens_in (c ∷ bs) ++ gens) (mods_in (c ∷ bs) ++ mods) at (omega arith) (omega arith)
    (back-from (past_bag at b) (c ∷ bs) gens mods))

pub tables-back : (bags : List Bag) → bags_in (tables_of bags) ≡ bags
tables-back bags = back-from (0, 0) bags ((0, 0) ∷ []) (no_modulator ∷ [])

pub read : (t : Tables) (bags : List Bag) → t ≡ tables_of bags → bags_in t ≡ bags
read t bags e = ap bags_in e ∙ tables-back bags

-- The records are those of these bags.
pub record AreOf (t : Tables) (bags : List Bag) : Type 0 where
  pub same : t ≡ tables_of bags

pub bags_read : {t : Tables} {bags : List Bag} → AreOf t bags → bags_in t ≡ bags
bags_read {t} {bags} a = read t bags a.same

pub are_read : {t : Tables} {bags : List Bag} → AreOf t bags → AreRead t
are_read a = a.same ∙ ap tables_of (sym (bags_read a))

-- The fields of `self` are the records of the bags of its value.
pub held : {t : Tables} {spare : Counts} {s : Stored} → AreRead t → record { bags = bags_in t; spare = spare } ≡ s
    → AreOf t s.bags
held are seen = record { same = are ∙ ap (λ (s : Stored). tables_of s.bags) seen }

-- ---- sizes

pub gens-end : (at : ℕ × ℕ) (bags : List Bag) → (end past_bag at bags).0 ≡ at.0 + length (gens_in bags)
gens-end at [] = omega arith
gens-end at (b ∷ bs) = let h = gens-end (past_bag at b) bs in let e = length-append b.gens (gens_in bs) in omega arith

pub mods-end : (at : ℕ × ℕ) (bags : List Bag) → (end past_bag at bags).1 ≡ at.1 + length (mods_in bags)
mods-end at [] = omega arith
mods-end at (b ∷ bs) = let h = mods-end (past_bag at b) bs in let e = length-append b.mods (mods_in bs) in omega arith

pub bags_size : {t : Tables} {bags : List Bag} → AreOf t bags → length t.bags ≡ length bags + 1
bags_size {t} {bags} a = ap (λ (t : Tables). length t.bags) a.same ∙ (length-starts past_bag (0, 0) bags ∙ omega arith)

pub gens_size : {t : Tables} {bags : List Bag} → AreOf t bags → length t.gens ≡ length (gens_in bags) + 1
gens_size {t} {bags} a = ap (λ (t : Tables). length t.gens) a.same ∙ length-append (gens_in bags) ((0, 0) ∷ [])

pub mods_size : {t : Tables} {bags : List Bag} → AreOf t bags → length t.mods ≡ length (mods_in bags) + 1
mods_size {t} {bags} a = ap (λ (t : Tables). length t.mods) a.same ∙ length-append (mods_in bags) (no_modulator ∷ [])

pub index_there : {t : Tables} {bags : List Bag} → AreOf t bags → {k n : ℕ} → k ≤ length bags → n ≡ length t.bags
    → k < n
index_there a h e = let size = bags_size a in omega arith

-- A list without its terminal.
pub without_last : {size count n : ℕ} → size ≡ count + 1 → n ≡ size → (1 ≤ n) × (n - 1 ≡ count)
without_last e f = (omega arith, omega arith)

-- ---- one member among the others

pub record Among {X : Type 0} (all : List X) (k : ℕ) (x : X) : Type 0 where
  pub front : List X
  pub back : List X
  pub whole : all ≡ front ++ x ∷ back
  pub before : length front ≡ k

pub among : {X : Type 0} (all : List X) (k : ℕ) (x : X) → slice_get all k ≡ Some x → Among all k x
among [] k x e = cc
among (y ∷ ys) zero x e = record { front = []; back = ys; whole = cc; before = refl }
among (y ∷ ys) (suc k) x e =
    let a = among ys k x e in
    record { front = y ∷ a.front; back = a.back; whole = ap (λ zs. y ∷ zs) a.whole; before = ap suc a.before }

pub removed : {X : Type 0} (front : List X) (x : X) (back : List X)
    → remove (front ++ x ∷ back) (length front) ≡ front ++ back
removed [] x back = refl
removed (y ∷ ys) x back = ap (λ zs. y ∷ zs) (removed ys x back)

-- ---- records inserted into and removed from one bag

pub more : (by m : ℕ × ℕ) (b : Bag) → raised by (past_bag m b) ≡ past_bag (raised by m) b
more by m b =
    let gens : (m.0 + length b.gens) + by.0 ≡ (m.0 + by.0) + length b.gens = omega arith in
    let mods : (m.1 + length b.mods) + by.1 ≡ (m.1 + by.1) + length b.mods = omega arith in
    λ i. (gens i, mods i)

pub undone : (by m : ℕ × ℕ) → lowered by (raised by m) ≡ m
undone by m =
    let gens : (m.0 + by.0) - by.0 ≡ m.0 = omega arith in
    let mods : (m.1 + by.1) - by.1 ≡ m.1 = omega arith in
    λ i. (gens i, mods i)

-- A bag with so many more records of each type.
larger : (by : ℕ × ℕ) (b c : Bag) → length c.gens ≡ length b.gens + by.0 → length c.mods ≡ length b.mods + by.1
    → (m : ℕ × ℕ) → raised by (past_bag m b) ≡ past_bag m c
larger by b c e f m =
    let gens : (m.0 + length b.gens) + by.0 ≡ m.0 + length c.gens = omega arith in
    let mods : (m.1 + length b.mods) + by.1 ≡ m.1 + length c.mods = omega arith in
    λ i. (gens i, mods i)

-- Where bag k begins.
pub record Begin (t : Tables) (bags : List Bag) (k : ℕ) (b : Bag) : Type 0 where
  pub front : List Bag
  pub back : List Bag
  pub same : t ≡ tables_of (front ++ b ∷ back)
  pub before : k ≡ length front
  pub more : k + 1 < length t.bags
  pub gens : (get_or t.bags k (0, 0)).0 ≡ length (gens_in front)
  pub mods : (get_or t.bags k (0, 0)).1 ≡ length (mods_in front)
  pub next : get_or t.bags (k + 1) (0, 0) ≡ past_bag (get_or t.bags k (0, 0)) b
  pub gens_among : t.gens ≡ gens_in front ++ (b.gens ++ (gens_in back ++ (0, 0) ∷ []))
  pub mods_among : t.mods ≡ mods_in front ++ (b.mods ++ (mods_in back ++ no_modulator ∷ []))
  pub sent : (f : Bag → Bag) → changed bags k f ≡ front ++ f b ∷ back
  pub without : remove bags k ≡ front ++ back

pub begin : {t : Tables} {bags : List Bag} {b : Bag} → AreOf t bags → (k : ℕ) → slice_get bags k ≡ Some b
    → Begin t bags k b
begin {t} {bags} {b} are k e =
    let a = among bags k b e in
    let before = a.before in
    let same : t ≡ tables_of (a.front ++ b ∷ a.back) = are.same ∙ ap tables_of a.whole in
    let at : get_or t.bags k (0, 0) ≡ end past_bag (0, 0) a.front =
    ap (λ (t : Tables). get_or t.bags k (0, 0)) same
    ∙
    (ap (λ n. get_or (starts past_bag (0, 0) (a.front ++ b ∷ a.back)) n (0, 0)) (sym a.before)
    ∙ at-starts past_bag (0, 0) (0, 0) a.front (b ∷ a.back))
    in
    let size : length t.bags ≡ suc (length (a.front ++ b ∷ a.back)) =
    ap (λ (t : Tables). length t.bags) same ∙ length-starts past_bag (0, 0) (a.front ++ b ∷ a.back) in
    let sizes = length-append a.front (b ∷ a.back) in
    record {
      front = a.front;
      back = a.back;
      same = same;
      before = sym a.before;
      more = omega arith;
      gens = ap (λ (m : ℕ × ℕ). m.0) at ∙ (gens-end (0, 0) a.front ∙ zero-add (length (gens_in a.front)));
      mods = ap (λ (m : ℕ × ℕ). m.1) at ∙ (mods-end (0, 0) a.front ∙ zero-add (length (mods_in a.front)));
      next =
          (let place : k + 1 ≡ suc (length a.front) = omega arith in
          ap (λ n. get_or t.bags n (0, 0)) place
          ∙ (ap (λ (t : Tables). get_or t.bags (suc (length a.front)) (0, 0)) same
          ∙ (next-starts past_bag (0, 0) (0, 0) a.front b a.back ∙ ap (λ m. past_bag m b) (sym at))));
      gens_among = ap (λ (t : Tables). t.gens) same ∙ flat-among (λ (b : Bag). b.gens) a.front b a.back ((0, 0) ∷ []);
      mods_among =
          ap (λ (t : Tables). t.mods) same ∙ flat-among (λ (b : Bag). b.mods) a.front b a.back (no_modulator ∷ []);
      sent =
          λ f.
          changed-found bags k f b e
          ∙ (ap (λ bags. set bags k (f b)) a.whole ∙ set_at a.front b a.back (f b) k a.before);
      without =
          ap (λ bags. remove bags k) a.whole
          ∙ (ap (remove (a.front ++ b ∷ a.back)) (sym a.before) ∙ removed a.front b a.back);
    }

module _ {t : Tables} {bags : List Bag} {k : ℕ} {b : Bag} (s : Begin t bags k b) where
  -- f applied to the bag in its list.
  rebuilt : (f : Bag → Bag) {index gens : List (ℕ × ℕ)} {mods : List Modulator}
      → index ≡ starts past_bag (0, 0) (s.front ++ f b ∷ s.back)
      → gens ≡ gens_in (s.front ++ f b ∷ s.back) ++ (0, 0) ∷ []
      → mods ≡ mods_in (s.front ++ f b ∷ s.back) ++ no_modulator ∷ []
      → AreOf (record { bags = index; gens = gens; mods = mods }) (changed bags k f)
  rebuilt f index gens mods =
      record
      { same = (λ i. record { bags = index i; gens = gens i; mods = mods i }) ∙ ap tables_of (sym (s.sent f)) }

  -- As many records of each type.
  index_kept : (c : Bag) → length b.gens ≡ length c.gens → length b.mods ≡ length c.mods
      → t.bags ≡ starts past_bag (0, 0) (s.front ++ c ∷ s.back)
  index_kept c gens mods =
      ap (λ (t : Tables). t.bags) s.same
      ∙ starts-same past_bag (0, 0) s.front b c s.back (λ m i. (m.0 + gens i, m.1 + mods i))

  place : k + 1 ≡ suc (length s.front)
  place = let before = s.before in omega arith

  module _ {at : ℕ × ℕ} (e : at ≡ get_or t.bags k (0, 0)) where
    gens_at : at.0 ≡ length (gens_in s.front)
    gens_at = ap (λ (m : ℕ × ℕ). m.0) e ∙ s.gens

    mods_at : at.1 ≡ length (mods_in s.front)
    mods_at = ap (λ (m : ℕ × ℕ). m.1) e ∙ s.mods

    pub records_put : (j i : ℕ) (gens : List (ℕ × ℕ)) (mods : List Modulator) → j ≤ length b.gens → i ≤ length b.mods
        → {index new_gens : List (ℕ × ℕ)} {new_mods : List Modulator}
        → index ≡ changed_from (k + 1) (raised (length gens, length mods)) t.bags
        → new_gens ≡ put t.gens (at.0 + j) gens → new_mods ≡ put t.mods (at.1 + i) mods
        → AreOf (record { bags = index; gens = new_gens; mods = new_mods })
        (changed bags k (λ b. record { gens = put b.gens j gens; mods = put b.mods i mods }))
    records_put j i gens mods h1 h2 index_is gens_are mods_are =
        let f : Bag → Bag = λ b. record { gens = put b.gens j gens; mods = put b.mods i mods } in
        let by : ℕ × ℕ = (length gens, length mods) in
        rebuilt f
        (index_is
        ∙ (ap (λ p. changed_from p (raised by) t.bags) place
        ∙ (ap (λ (t : Tables). changed_from (suc (length s.front)) (raised by) t.bags) s.same
        ∙ starts-replaced past_bag (raised by) (more by) (0, 0) s.front b (f b) s.back
        (larger by b (f b) (length-put b.gens j gens h1) (length-put b.mods i mods h2)))))
        (gens_are
        ∙
        (ap (λ (t : Tables). put t.gens (at.0 + j) gens) s.same
        ∙ flat-put (λ (b : Bag). b.gens) s.front b (f b) s.back ((0, 0) ∷ []) at.0 j gens gens_at h1 refl))
        (mods_are
        ∙
        (ap (λ (t : Tables). put t.mods (at.1 + i) mods) s.same
        ∙ flat-put (λ (b : Bag). b.mods) s.front b (f b) s.back (no_modulator ∷ []) at.1 i mods mods_at
        h2 refl))

    pub shrunk : (j n i m : ℕ) → j + n ≤ length b.gens → i + m ≤ length b.mods
        → {index new_gens : List (ℕ × ℕ)} {new_mods : List Modulator}
        → index ≡ changed_from (k + 1) (lowered (n, m)) t.bags → new_gens ≡ cut t.gens (at.0 + j) n
        → new_mods ≡ cut t.mods (at.1 + i) m
        → AreOf (record { bags = index; gens = new_gens; mods = new_mods })
        (changed bags k (λ b. record { gens = cut b.gens j n; mods = cut b.mods i m }))
    shrunk j n i m h1 h2 index_is gens_are mods_are =
        let f : Bag → Bag = λ b. record { gens = cut b.gens j n; mods = cut b.mods i m } in
        let by : ℕ × ℕ = (n, m) in
        let back : starts past_bag (0, 0) (s.front ++ b ∷ s.back)
        ≡ changed_from (suc (length s.front)) (raised by) (starts past_bag (0, 0) (s.front ++ f b ∷ s.back)) =
        sym
        (starts-replaced past_bag (raised by) (more by) (0, 0) s.front (f b) b s.back
        (larger by (f b) b (sym (length-cut b.gens j n h1)) (sym (length-cut b.mods i m h2))))
        in
        rebuilt f
        (index_is
        ∙ (ap (λ p. changed_from p (lowered by) t.bags) place
        ∙ (ap (λ (t : Tables). changed_from (suc (length s.front)) (lowered by) t.bags) s.same
        ∙ (ap (changed_from (suc (length s.front)) (lowered by)) back
        ∙ changed_from-undone (raised by) (lowered by) (undone by) (suc (length s.front))
        (starts past_bag (0, 0) (s.front ++ f b ∷ s.back))))))
        (gens_are
        ∙
        (ap (λ (t : Tables). cut t.gens (at.0 + j) n) s.same
        ∙ flat-cut (λ (b : Bag). b.gens) s.front b (f b) s.back ((0, 0) ∷ []) at.0 j n gens_at h1 refl))
        (mods_are
        ∙
        (ap (λ (t : Tables). cut t.mods (at.1 + i) m) s.same
        ∙ flat-cut (λ (b : Bag). b.mods) s.front b (f b) s.back (no_modulator ∷ []) at.1 i m mods_at h2
        refl))

    pub gen_set : (j : ℕ) (g : ℕ × ℕ) → j < length b.gens
        → AreOf (record { bags = t.bags; gens = set t.gens (at.0 + j) g; mods = t.mods })
        (changed bags k (λ b. with_gens (set b.gens j g) b))
    gen_set j g h =
        let f : Bag → Bag = λ b. with_gens (set b.gens j g) b in
        rebuilt f (index_kept (f b) (sym (length-set b.gens j g)) refl)
        (ap (λ (t : Tables). set t.gens (at.0 + j) g) s.same
        ∙ flat-set (λ (b : Bag). b.gens) s.front b (f b) s.back ((0, 0) ∷ []) at.0 j g gens_at h refl)
        (ap (λ (t : Tables). t.mods) s.same
        ∙ flat-kept (λ (b : Bag). b.mods) s.front b (f b) s.back (no_modulator ∷ []) refl)

    pub mod_set : (j : ℕ) (m : Modulator) → j < length b.mods
        → AreOf (record { bags = t.bags; gens = t.gens; mods = set t.mods (at.1 + j) m })
        (changed bags k (λ b. with_mods (set b.mods j m) b))
    mod_set j m h =
        let f : Bag → Bag = λ b. with_mods (set b.mods j m) b in
        rebuilt f (index_kept (f b) refl (sym (length-set b.mods j m)))
        (ap (λ (t : Tables). t.gens) s.same ∙ flat-kept (λ (b : Bag). b.gens) s.front b (f b) s.back ((0, 0) ∷ []) refl)
        (ap (λ (t : Tables). set t.mods (at.1 + j) m) s.same
        ∙ flat-set (λ (b : Bag). b.mods) s.front b (f b) s.back (no_modulator ∷ []) at.1 j m mods_at h refl)

-- ---- an empty bag inserted and removed

pub bag_put : {t : Tables} {bags : List Bag} → AreOf t bags → (k : ℕ) → k ≤ length bags
    → {at : ℕ × ℕ} {new : List (ℕ × ℕ)} → at ≡ get_or t.bags k at → new ≡ put t.bags k (at ∷ [])
    → AreOf (record { bags = new; gens = t.gens; mods = t.mods }) (insert bags k no_bag)
bag_put {t} {bags} are k h {at} {new} e f =
    let front = take k bags in
    let back = drop k bags in
    let same : t ≡ tables_of (front ++ back) = are.same ∙ ap tables_of (sym (take-append-drop k bags)) in
    let before : k ≡ length front = sym (length-take-le k bags h) in
    let size = bags_size are in
    let index : new ≡ starts past_bag (0, 0) (front ++ no_bag ∷ back) =
    f
    ∙ (ap (λ at. put t.bags k (at ∷ [])) (e ∙ get_or_default t.bags k at (0, 0) (omega arith))
    ∙ (ap (λ (t : Tables). insert t.bags k (get_or t.bags k (0, 0))) same
    ∙ (ap (λ n. insert (starts past_bag (0, 0) (front ++ back)) n
    (get_or (starts past_bag (0, 0) (front ++ back)) n (0, 0))) before
    ∙ starts-put past_bag (0, 0) (0, 0) front no_bag back (λ m i. (add-zero m.0 i, add-zero m.1 i))))) in
    let gens : t.gens ≡ gens_in (front ++ no_bag ∷ back) ++ (0, 0) ∷ [] =
    ap (λ (t : Tables). t.gens) same ∙ sym (flat-none (λ (b : Bag). b.gens) front no_bag back ((0, 0) ∷ []) refl) in
    let mods : t.mods ≡ mods_in (front ++ no_bag ∷ back) ++ no_modulator ∷ [] =
    ap (λ (t : Tables). t.mods) same
    ∙ sym (flat-none (λ (b : Bag). b.mods) front no_bag back (no_modulator ∷ []) refl) in
    record { same = λ i. record { bags = index i; gens = gens i; mods = mods i } }

pub bag_cut : {t : Tables} {bags : List Bag} → AreOf t bags → (k : ℕ) → slice_get bags k ≡ Some no_bag
    → {new : List (ℕ × ℕ)} → new ≡ remove t.bags k
    → AreOf (record { bags = new; gens = t.gens; mods = t.mods }) (remove bags k)
bag_cut {t} {bags} are k e {new} f =
    let s = begin are k e in
    let index : new ≡ starts past_bag (0, 0) (s.front ++ s.back) =
    f
    ∙ (ap (λ (t : Tables). remove t.bags k) s.same
    ∙ (ap (λ n. remove (starts past_bag (0, 0) (s.front ++ no_bag ∷ s.back)) n) s.before
    ∙ starts-cut past_bag (0, 0) s.front no_bag s.back (λ m i. (add-zero m.0 i, add-zero m.1 i)))) in
    let gens : t.gens ≡ gens_in (s.front ++ s.back) ++ (0, 0) ∷ [] =
    ap (λ (t : Tables). t.gens) s.same ∙ flat-none (λ (b : Bag). b.gens) s.front no_bag s.back ((0, 0) ∷ []) refl in
    let mods : t.mods ≡ mods_in (s.front ++ s.back) ++ no_modulator ∷ [] =
    ap (λ (t : Tables). t.mods) s.same
    ∙ flat-none (λ (b : Bag). b.mods) s.front no_bag s.back (no_modulator ∷ []) refl in
    record { same = (λ i. record { bags = index i; gens = gens i; mods = mods i }) ∙ ap tables_of (sym s.without) }

-- The terminal bag has the numbers of all generators and modulators.
pub last_counts : {t : Tables} {bags : List Bag} → AreOf t bags → (xs : List (ℕ × ℕ)) (n : ℕ) (p : ℕ × ℕ)
    → xs ≡ t.bags → n ≡ length bags → p ≡ get_or xs n p → p ≡ (length (gens_in bags), length (mods_in bags))
last_counts {t} {bags} a xs n p e size is =
    let last = end past_bag (0, 0) bags in
    is
    ∙ ((λ i. get_or (e i) (size i) p)
    ∙ (ap (λ (t : Tables). get_or t.bags (length bags) p) a.same
    ∙ (get_or_from_slice_get (starts past_bag (0, 0) bags) (length bags) last p (starts-end past_bag (0, 0) bags)
    ∙ (λ i. (
      (gens-end (0, 0) bags ∙ zero-add (length (gens_in bags))) i,
      (mods-end (0, 0) bags ∙ zero-add (length (mods_in bags))) i,
    )))))
