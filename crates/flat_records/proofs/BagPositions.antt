-- An index in a bag, and the records there.
use Rattle.std.proofs.Common.{◌-◌, take, ◌≡◌, ℕ, ◌<◌, ◌≤◌, ◌+◌, ◌^◌, suc, List, [], ◌∷◌, ◌++◌, length, All}
use Rattle.std.proofs.Common.{slice_get, subst, Some, refl, sym, ◌∙◌, ap, drop, get_or, length-append}
use Rattle.std.proofs.Common.{arith}
use Rattle.std.specs.Option.{IfSome, IsSomeAnd}
use Rattle.std.proofs.lemmas.List.{get_or_default, take_at, drop_at}
use Rattle.std.proofs.lemmas.List.Elements.{All-drop}
use Rattle.base_numbered_lists.proofs.Changing.{found}
use Rattle.base_numbered_lists.proofs.Lists.{slice_get-found}
use Rattle.flat_records.specs.Runs.{starts}
use Rattle.flat_records.specs.Bags.{Bag, past_bag, gens_in, mods_in, no_modulator, Tables}
use Rattle.flat_records.specs.Raised.{CanRaise, CanLower}
use Rattle.flat_records.proofs.Starts.{end, drop-past, All-starts, All-starts_back}
use Rattle.flat_records.proofs.TableLaws.{AreOf, Begin, begin, gens-end, mods-end}

-- Bag k, which has property P.
pub record Spot (t : Tables) (bags : List Bag) (k : ℕ) (P : Bag → Type 0) : Type 0 where
  pub bag : Bag
  pub there : slice_get bags k ≡ Some bag
  pub holds : P bag
  pub begin : Begin t bags k bag

pub spot : {t : Tables} {bags : List Bag} → AreOf t bags → (k : ℕ) (P : Bag → Type 0)
    → IsSomeAnd (slice_get bags k) P → Spot t bags k P
spot {t} {bags} a k P h =
    let f = found P (slice_get bags k) h in
    record { bag = f.0; there = f.1; holds = f.2; begin = begin a k f.1 }

-- Indexes in a bag's lists, and ranges of them.
abbrev pub Places : ℕ → ℕ → Bag → Type 0
Places j i b = (j ≤ length b.gens) × (i ≤ length b.mods)

abbrev pub Windows : ℕ → ℕ → ℕ → ℕ → Bag → Type 0
Windows j n i m b = (j + n ≤ length b.gens) × (i + m ≤ length b.mods)

-- Any bag.
abbrev pub Any : Bag → Type 0
Any b = Unit {0}

pub any_bag : {t : Tables} {bags : List Bag} → AreOf t bags → (k : ℕ) → k < length bags → Spot t bags k Any
any_bag {t} {bags} a k h =
    let (b, there) = slice_get-found bags k h in
    record { bag = b; there = there; holds = tt; begin = begin a k there }

-- ---- a range of a list

pub record Part {X : Type 0} (xs ys : List X) (at : ℕ) : Type 0 where
  pub front : List X
  pub back : List X
  pub whole : xs ≡ front ++ (ys ++ back)
  pub before : at ≡ length front

module _ {X : Type 0} {xs ys : List X} {at : ℕ} (p : Part xs ys at) where
  pub inside : at + length ys ≤ length xs
  inside =
      let before = p.before in
      let size : length xs ≡ length p.front + (length ys + length p.back) =
      ap length p.whole ∙ simp length-append refl in
      omega arith

  pub inside_at : {j n : ℕ} → j < length ys → n ≡ length xs → at + j < n
  inside_at h e = let within = inside in omega arith

  -- Up to the next start, in an equal list.
  module _ {past : ℕ} (next : past ≡ at + length ys) {zs : List X} (same : zs ≡ xs) where
    pub between : record { start : at ≤ past; end : past ≤ length zs }
    between = let within = inside in let size = ap length same in record { start = omega arith; end = omega arith }

    pub part_read : {out : List X} → out ≡ take (past - at) (drop at zs) → out ≡ ys
    part_read e =
        let n : past - at ≡ length ys = omega arith in
        e ∙ ((λ i. take (n i) (drop at ((same ∙ p.whole) i)))
        ∙ (ap (take (length ys)) (drop_at p.front (ys ++ p.back) at (sym p.before))
        ∙ take_at ys p.back (length ys) refl))

-- ---- results of indexing

module _ {t : Tables} {bags : List Bag} {k : ℕ} {P : Bag → Type 0} (s : Spot t bags k P) {at : ℕ × ℕ}
    (e : at ≡ get_or t.bags k at) where
  pub place_read : at ≡ get_or t.bags k (0, 0)
  place_read = let more = s.begin.more in e ∙ get_or_default t.bags k at (0, 0) (omega arith)

  pub past_read : {past : ℕ × ℕ} → past ≡ get_or t.bags (k + 1) past → past ≡ past_bag at s.bag
  past_read {past} f =
      f
      ∙
      (get_or_default t.bags (k + 1) past (0, 0) s.begin.more
      ∙ (s.begin.next ∙ ap (λ m. past_bag m s.bag) (sym place_read)))

  pub gens_part : Part t.gens s.bag.gens at.0
  gens_part =
      record {
        front =
            gens_in s.begin.front;
        back =
            gens_in s.begin.back ++ (0, 0) ∷ [];
        whole =
            s.begin.gens_among;
        before = ap (λ (m : ℕ × ℕ). m.0) place_read ∙ s.begin.gens;
      }

  pub mods_part : Part t.mods s.bag.mods at.1
  mods_part =
      record {
        front =
            mods_in s.begin.front;
        back =
            mods_in s.begin.back ++ no_modulator ∷ [];
        whole =
            s.begin.mods_among;
        before = ap (λ (m : ℕ × ℕ). m.1) place_read ∙ s.begin.mods;
      }

pub at_value : {t : Tables} {bags : List Bag} {k : ℕ} {P : Bag → Type 0} (s : Spot t bags k P) (Q : Bag → Type 0)
    → Q s.bag → IfSome (slice_get bags k) Q
at_value s Q h = subst (λ o. IfSome o Q) (sym s.there) h

-- ---- indexes of later bags

pub later_raised : {t : Tables} {bags : List Bag} {k : ℕ} {P : Bag → Type 0} → Spot t bags k P → AreOf t bags
    → (n m : ℕ) → (0 < n → length (gens_in bags) + n < 2 ^ 16) → (0 < m → length (mods_in bags) + m < 2 ^ 16)
    → record { place : k + 1 ≤ length t.bags; fits : All (CanRaise (n, m)) (drop (k + 1) t.bags) }
later_raised {t} {bags} {k} s a n m h1 h2 =
    let e = gens-end (0, 0) bags in
    let f = mods-end (0, 0) bags in
    let more = s.begin.more in
    let first : 0 < n → (end past_bag (0, 0) bags).0 + n < 2 ^ 16 = λ some. let h = h1 some in omega arith in
    let second : 0 < m → (end past_bag (0, 0) bags).1 + m < 2 ^ 16 = λ some. let h = h2 some in omega arith in
    record {
      place = omega arith;
      fits =
          All-drop (CanRaise (n, m)) (k + 1) t.bags
          (subst (λ (t : Tables). All (CanRaise (n, m)) t.bags) (sym a.same)
          (All-starts_back past_bag (CanRaise (n, m)) (λ a b p. record { gens = λ some. let g = p.gens some in omega arith; mods = λ some. let g = p.mods some in omega arith }) (0, 0) bags (record { gens = first; mods = second })));
    }

pub later_lowered : {t : Tables} {bags : List Bag} {k : ℕ} {P : Bag → Type 0} (s : Spot t bags k P) (n m : ℕ)
    → n ≤ length s.bag.gens → m ≤ length s.bag.mods
    → record { place : k + 1 ≤ length t.bags; fits : All (CanLower (n, m)) (drop (k + 1) t.bags) }
later_lowered {t} {bags} {k} s n m h1 h2 =
    let b = s.begin in
    let before = b.before in
    let more = b.more in
    let place : k + 1 ≡ suc (length b.front) = omega arith in
    let from = past_bag (end past_bag (0, 0) b.front) s.bag in
    let following : drop (k + 1) t.bags ≡ starts past_bag from b.back =
    ap (λ p. drop p t.bags) place
    ∙
    (ap (λ (t : Tables). drop (suc (length b.front)) t.bags) b.same
    ∙ drop-past past_bag (0, 0) b.front s.bag b.back)
    in
    let first : n ≤ (end past_bag (0, 0) b.front).0 + length s.bag.gens = omega arith in
    let second : m ≤ (end past_bag (0, 0) b.front).1 + length s.bag.mods = omega arith in
    record {
      place = omega arith;
      fits =
          subst (All (CanLower (n, m))) (sym following)
          (All-starts past_bag (CanLower (n, m))
          (λ a b p. let g = p.gens in let d = p.mods in record { gens = omega arith; mods = omega arith }) from
          b.back (record { gens = first; mods = second }));
    }
