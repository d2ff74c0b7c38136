-- Generator maps stored as the last entries of a list.
use Rattle.std.proofs.Common.{◌≡◌, ◌<◌, ◌≤◌, ◌+◌, ◌-◌, ◌^◌, ℕ, zero, suc, List, [], ◌∷◌, ◌++◌, length, take, drop}
use Rattle.std.proofs.Common.{set, get_or, insert, Option, Some, None, Bool, not, ◌==◌, false, refl, sym, ap, subst}
use Rattle.std.proofs.Common.{◌∙◌, zero-add, suc-add, arith}
use Rattle.std.proofs.lemmas.List.{get_or-drop, take-set-le, drop-set-add, length-drop, length-set}
use Rattle.std.proofs.lemmas.List.Edits.{length-insert}
use Rattle.std.specs.FinMap as map
use Rattle.generators.specs.Gens.{Gens, AreGens, no_gens}
use Rattle.generators.specs.Indexes.{IsAt, IsInsertionIndex}
use Rattle.generators.proofs.Maps.{entries_held, len_held, from_sorted-nil, get_at, AreGens-set, set_is_insert}
use Rattle.generators.proofs.Maps.{get_gap, AreGens-insert, inserted_is_insert}
use Rattle.bank_format.specs.Zones.{repaired_range}
use Rattle.sf_reader.specs.Entries.{EndsInMap, map_from}
use Rattle.sf_reader.specs.Gens.{is_out_of_order, repaired_at}

-- ---- lists

pub take-insert : {X : Type 0} (n : ℕ) (xs : List X) (i : ℕ) (x : X) → n ≤ length xs
    → take n (insert xs (n + i) x) ≡ take n xs
take-insert zero xs i x h = refl
take-insert (suc n) [] i x h = absurd (omega arith)
take-insert (suc n) (y ∷ ys) i x h = rw (suc-add n i) (ap (λ zs. y ∷ zs) (take-insert n ys i x (omega arith)))

pub drop-insert : {X : Type 0} (n : ℕ) (xs : List X) (i : ℕ) (x : X) → n ≤ length xs
    → drop n (insert xs (n + i) x) ≡ insert (drop n xs) i x
drop-insert zero xs i x h = rw (zero-add i) refl
drop-insert (suc n) [] i x h = absurd (omega arith)
drop-insert (suc n) (y ∷ ys) i x h = rw (suc-add n i) (drop-insert n ys i x (omega arith))

pub front-and-rest : {X : Type 0} (n : ℕ) (xs : List X) → xs ≡ take n xs ++ drop n xs
front-and-rest zero xs = refl
front-and-rest (suc n) [] = refl
front-and-rest (suc n) (x ∷ xs) = ap (λ ys. x ∷ ys) (front-and-rest n xs)

pub take-front : {X : Type 0} (xs ys : List X) → take (length xs) (xs ++ ys) ≡ xs
take-front [] ys = refl
take-front (x ∷ xs) ys = ap (λ zs. x ∷ zs) (take-front xs ys)

pub drop-all : {X : Type 0} (xs : List X) → drop (length xs) xs ≡ []
drop-all [] = refl
drop-all (x ∷ xs) = drop-all xs

pub take-all : {X : Type 0} (xs : List X) → take (length xs) xs ≡ xs
take-all [] = refl
take-all (x ∷ xs) = ap (λ ys. x ∷ ys) (take-all xs)

-- the entries from index n to the end
pub rest_is : {X : Type 0} (n : ℕ) (xs : List X) → take (length xs - n) (drop n xs) ≡ drop n xs
rest_is n xs = ap (λ k. take k (drop n xs)) (sym (length-drop n xs)) ∙ take-all (drop n xs)

-- ---- an index at the end of a list

pub ends_in_none : (es : List (ℕ × ℕ)) (start : ℕ) → start ≡ length es → EndsInMap start es
ends_in_none es start e = record {
  within = omega (arith, e);
  own =
      subst (λ (l : List (ℕ × ℕ)). AreGens l) (sym (ap (λ n. drop n es) e ∙ drop-all es))
      (record { sorted = refl; fit = tt });
}

pub none_from : (es : List (ℕ × ℕ)) (start : ℕ) → start ≡ length es → map_from start es ≡ no_gens
none_from es start e = from_sorted-nil (drop start es) (ap (λ n. drop n es) e ∙ drop-all es)

pub map_len : (es : List (ℕ × ℕ)) (start : ℕ) → EndsInMap start es → map.len (map_from start es) ≡ length es - start
map_len es start m = len_held m.own refl ∙ length-drop start es

-- the list is the old entries followed by the entries of the map
pub entries_after : (old new : List (ℕ × ℕ)) (start : ℕ) (m : Gens) → start ≡ length old
    → take start new ≡ take start old → EndsInMap start new → map_from start new ≡ m → new ≡ old ++ map.entries m
entries_after old new start m from front ends is =
    let first : take start new ≡ old = front ∙ ap (λ n. take n old) from ∙ take-all old in
    let rest = sym (entries_held ends.own is) in
    front-and-rest start new ∙ (λ i. first i ++ rest i)

-- ---- setting one operator

module _ (start : ℕ) (es : List (ℕ × ℕ)) (m : EndsInMap start es) (op w : ℕ) (fits : op < 2 ^ 16)
    (fits_too : w < 2 ^ 16) where
  module _ (i : ℕ) (at : IsAt (drop start es) op i) where
    held : IsAt (map.entries (map_from start es)) op i
    held = subst (λ xs. IsAt xs op i) (sym (entries_held m.own refl)) at

    pub set-front : take start (set es (start + i) (op, w)) ≡ take start es
    set-front = take-set-le start es (start + i) (op, w) (omega arith)

    pub set-map : EndsInMap start (set es (start + i) (op, w))
    set-map = record {
      within = omega (arith, m.within, length-set es (start + i) (op, w));
      own = subst AreGens (sym (drop-set-add start es i (op, w))) (AreGens-set m.own refl held w fits fits_too);
    }

    pub set-set : map_from start (set es (start + i) (op, w)) ≡ map.insert (map_from start es) op w
    set-set = ap map.from_sorted (drop-set-add start es i (op, w)) ∙ set_is_insert m.own refl held w fits fits_too

  module _ (i : ℕ) (gap : IsInsertionIndex (drop start es) op i) where
    gap_held : IsInsertionIndex (map.entries (map_from start es)) op i
    gap_held = subst (λ xs. IsInsertionIndex xs op i) (sym (entries_held m.own refl)) gap

    insert-within : start + i ≤ length es
    insert-within = omega (arith, gap.within, m.within, length-drop start es)

    pub insert-front : take start (insert es (start + i) (op, w)) ≡ take start es
    insert-front = take-insert start es i (op, w) m.within

    pub insert-map : EndsInMap start (insert es (start + i) (op, w))
    insert-map = record {
      within = omega (arith, m.within, length-insert es (start + i) (op, w) insert-within);
      own =
          subst AreGens (sym (drop-insert start es i (op, w) m.within))
          (AreGens-insert m.own refl gap_held w fits fits_too);
    }

    pub insert-set : map_from start (insert es (start + i) (op, w)) ≡ map.insert (map_from start es) op w
    insert-set =
        ap map.from_sorted (drop-insert start es i (op, w) m.within)
        ∙ inserted_is_insert m.own refl gap_held w fits fits_too

-- ---- repairing a range

module _ (start : ℕ) (es : List (ℕ × ℕ)) (m : EndsInMap start es) (op : ℕ) where
  abbrev changes : Option ℕ → Bool
  changes o = elim o [ None ↦ false | Some w ↦ not (repaired_range w == w) ]

  abbrev repair : Option ℕ → Gens
  repair o = elim o [ None ↦ map_from start es | Some w ↦ map.insert (map_from start es) op (repaired_range w) ]

  module _ (i v : ℕ) (entry : ℕ × ℕ) (at : IsAt (drop start es) op i) (is : entry ≡ get_or es (start + i) entry)
      (v_is : v ≡ repaired_range entry.1) where
    amount_is : map.get (map_from start es) op ≡ Some entry.1
    amount_is =
        get_at m.own refl (subst (λ xs. IsAt xs op i) (sym (entries_held m.own refl)) at) entry
        ∙ ap (λ (e : ℕ × ℕ). Some e.1) (get_or-drop start es i entry ∙ sym is)

    pub out_of_order : not (v == entry.1) ≡ is_out_of_order op (map_from start es)
    out_of_order = ap (λ x. not (x == entry.1)) v_is ∙ sym (ap changes amount_is)

    pub repaired_is : (fits : op < 2 ^ 16) (fits_too : v < 2 ^ 16)
        → map_from start (set es (start + i) (op, v)) ≡ repaired_at op (map_from start es)
    repaired_is fits fits_too =
        set-set start es m op v fits fits_too i at ∙ ap (map.insert (map_from start es) op) v_is
        ∙ sym (ap repair amount_is)

  module _ (i : ℕ) (gap : IsInsertionIndex (drop start es) op i) where
    none_there : map.get (map_from start es) op ≡ None
    none_there = get_gap m.own refl (subst (λ xs. IsInsertionIndex xs op i) (sym (entries_held m.own refl)) gap)

    pub none_out_of_order : false ≡ is_out_of_order op (map_from start es)
    none_out_of_order = sym (ap changes none_there)

    pub none_repaired : map_from start es ≡ repaired_at op (map_from start es)
    none_repaired = sym (ap repair none_there)
