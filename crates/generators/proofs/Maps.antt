-- Maps of generators, and the entries that represent them.
use Rattle.std.proofs.Common.{◌≡◌, ◌<◌, ◌≤◌, ◌^◌, ℕ, zero, suc, Bool, true, false, cond, not, List, [], ◌∷◌, ◌++◌}
use Rattle.std.proofs.Common.{length, get_or, set, take, drop, Option, Some, None, IsSome, true≢false, refl, sym, ap}
use Rattle.std.proofs.Common.{subst, ◌∙◌}
use Rattle.std.specs.Prelude.{IsTrue, is_some}
use Rattle.std.specs.List.{AllByRecursion}
use Rattle.std.specs.List as list
use Rattle.std.specs.Ordering.{is_eq}
use Rattle.std.specs.Cmp.{eq_by_cmp_equiv, alike_right}
use Rattle.std.specs.FinMap as map
use Rattle.std.specs.FinMap.{entries, is_sorted, find, put, from_sorted, entries-from_sorted, entries_sorted}
use Rattle.std.specs.FinMap.{entries-insert, same_entries_map, get-entries, get-from_sorted}
use Rattle.std.specs.FinMap.Entries.{where_key, is_sorted-put, is_sorted-where_key, find-where_key}
use Rattle.std.proofs.lemmas.List.{get_or_default}
use lib.Dec.{T}
use Rattle.generators.specs.Gens.{operator_cmp, Gens, no_gens, FitsEntry, FitEntries, FitGens, AreGens}
use Rattle.generators.specs.Indexes.{IsAt, IsInsertionIndex}
use Rattle.generators.proofs.Order.{operator_cmp-IsTotalOrder, tied}
use Rattle.generators.proofs.Entries.{Entries, find_at, put_at, remove_at, find_gap, put_gap}
use Rattle.generators.proofs.MapLaws.{same_gens, get-remove_any, remove-absent}

to_T : {b : Bool} → IsTrue b → T b
to_T e = subst T (sym e) tt

from_T : (b : Bool) → T b → IsTrue b
from_T true h = refl
from_T false h = absurd h

-- ---- properties of all entries

AllByRecursion-append : {X : Type 0} (P : X → Type 0) (xs ys : List X) → AllByRecursion P xs → AllByRecursion P ys
    → AllByRecursion P (xs ++ ys)
AllByRecursion-append P [] ys p q = q
AllByRecursion-append P (x ∷ xs) ys p q = (p.0, AllByRecursion-append P xs ys p.1 q)

AllByRecursion-take : {X : Type 0} (P : X → Type 0) (xs : List X) (n : ℕ) → AllByRecursion P xs
    → AllByRecursion P (take n xs)
AllByRecursion-take P xs zero p = tt
AllByRecursion-take P [] (suc n) p = tt
AllByRecursion-take P (x ∷ xs) (suc n) p = (p.0, AllByRecursion-take P xs n p.1)

AllByRecursion-drop : {X : Type 0} (P : X → Type 0) (xs : List X) (n : ℕ) → AllByRecursion P xs
    → AllByRecursion P (drop n xs)
AllByRecursion-drop P xs zero p = p
AllByRecursion-drop P [] (suc n) p = tt
AllByRecursion-drop P (x ∷ xs) (suc n) p = AllByRecursion-drop P xs n p.1

AllByRecursion-set : {X : Type 0} (P : X → Type 0) (xs : List X) (n : ℕ) (x : X) → P x → AllByRecursion P xs
    → AllByRecursion P (set xs n x)
AllByRecursion-set P [] n y q p = tt
AllByRecursion-set P (x ∷ xs) zero y q p = (q, p.1)
AllByRecursion-set P (x ∷ xs) (suc n) y q p = (p.0, AllByRecursion-set P xs n y q p.1)

-- ---- the map of entries

pub entries_held : {es : Entries} {m : Gens} → AreGens es → from_sorted es ≡ m → entries m ≡ es
entries_held {es} h e = ap entries (sym e) ∙ entries-from_sorted operator_cmp es (to_T h.sorted)

-- The entries of any map are in order.
pub entries_rise : (m : Gens) → IsTrue (is_sorted operator_cmp (entries m))
entries_rise m = from_T (is_sorted operator_cmp (entries m)) (entries_sorted m)

pub FitGens_held : {es : Entries} {m : Gens} → AreGens es → from_sorted es ≡ m → FitGens m
FitGens_held h e = subst FitEntries (sym (entries_held h e)) h.fit

-- Sorted entries make a map with these entries.
from_sorted_is : (es : Entries) (m : Gens) → IsTrue (is_sorted operator_cmp es) → es ≡ entries m → from_sorted es ≡ m
from_sorted_is es m rises same =
    same_entries_map (from_sorted es) m (entries-from_sorted operator_cmp es (to_T rises) ∙ same)

-- Entries stay sorted when one is inserted or removed.
put_rises : (op w : ℕ) (es : Entries) → IsTrue (is_sorted operator_cmp es)
    → IsTrue (is_sorted operator_cmp (put operator_cmp op w es))
put_rises op w es rises =
    from_T (is_sorted operator_cmp (put operator_cmp op w es))
    (is_sorted-put operator_cmp operator_cmp-IsTotalOrder op w es (to_T rises))

-- The entries of the other operators.
abbrev pub without : ℕ → Entries → Entries
without op es = where_key operator_cmp (λ x. not (tied op x)) es

without_rises : (op : ℕ) (es : Entries) → IsTrue (is_sorted operator_cmp es)
    → IsTrue (is_sorted operator_cmp (without op es))
without_rises op es rises =
    from_T (is_sorted operator_cmp (without op es))
    (is_sorted-where_key operator_cmp (λ x. not (tied op x)) es (to_T rises))

if_not : (b : Bool) (o : Option ℕ) → cond (not b) o None ≡ cond b None o
if_not true o = refl
if_not false o = refl

find-without : (op q : ℕ) (es : Entries)
    → find operator_cmp q (without op es) ≡ cond (tied q op) None (find operator_cmp q es)
find-without op q es =
    find-where_key operator_cmp (λ x. not (tied op x)) q
    (λ x t. ap (λ r. not (is_eq r)) (sym (alike_right operator_cmp-IsTotalOrder q x op t))) es
    ∙ if_not (tied op q) (find operator_cmp q es)
    ∙ ap (λ b. cond b None (find operator_cmp q es)) ((eq_by_cmp_equiv operator_cmp-IsTotalOrder).symm op q)

pub entries-remove : (m : Gens) (op : ℕ) → entries (map.remove m op) ≡ without op (entries m)
entries-remove m op =
    let left = without op (entries m) in
    let rises = without_rises op (entries m) (entries_rise m) in
    let same : map.remove m op ≡ from_sorted left = same_gens (map.remove m op) (from_sorted left) (λ q.
    get-remove_any m op q ∙ ap (cond (tied q op) None) (get-entries m q)
    ∙ sym (find-without op q (entries m)) ∙ sym (get-from_sorted operator_cmp left q (to_T rises))) in
    ap entries same ∙ entries-from_sorted operator_cmp left (to_T rises)

-- ---- the operator is at index i
module _ {es : Entries} {m : Gens} (h : AreGens es) (e : from_sorted es ≡ m) {op i : ℕ} (at : IsAt (entries m) op i)
  where
    same_entries : IsAt es op i
    same_entries = subst (λ xs. IsAt xs op i) (entries_held h e) at

    pub at_within : i < length es
    at_within = same_entries.within

    pub get_at : (d : ℕ × ℕ) → map.get m op ≡ Some (get_or es i d).1
    get_at d =
        get-entries m op ∙ ap (find operator_cmp op) (entries_held h e)
        ∙ find_at operator_cmp operator_cmp-IsTotalOrder es op i h.sorted at_within same_entries.same
        ∙ ap (λ (x : ℕ × ℕ). Some x.1) (get_or_default es i (0, 0) d at_within)

    put_is_set : (w : ℕ) → put operator_cmp op w es ≡ set es i (op, w)
    put_is_set w = put_at operator_cmp operator_cmp-IsTotalOrder es op w i h.sorted at_within same_entries.same

    pub AreGens-set : (w : ℕ) → op < 2 ^ 16 → w < 2 ^ 16 → AreGens (set es i (op, w))
    AreGens-set w p q = record {
      sorted = subst (λ xs. IsTrue (is_sorted operator_cmp xs)) (put_is_set w) (put_rises op w es h.sorted);
      fit = AllByRecursion-set FitsEntry es i (op, w) (p, q) h.fit;
    }

    pub set_is_insert : (w : ℕ) → op < 2 ^ 16 → w < 2 ^ 16 → from_sorted (set es i (op, w)) ≡ map.insert m op w
    set_is_insert w p q =
        from_sorted_is (set es i (op, w)) (map.insert m op w) (AreGens-set w p q).sorted (
        sym (put_is_set w) ∙ ap (put operator_cmp op w) (sym (entries_held h e))
        ∙ sym (entries-insert operator_cmp-IsTotalOrder m op w))

    without_is_remove : without op es ≡ list.remove es i
    without_is_remove = remove_at operator_cmp operator_cmp-IsTotalOrder es op i h.sorted at_within same_entries.same

    pub AreGens-remove : AreGens (list.remove es i)
    AreGens-remove = record {
      sorted = subst (λ xs. IsTrue (is_sorted operator_cmp xs)) without_is_remove (without_rises op es h.sorted);
      fit =
          AllByRecursion-append FitsEntry (take i es) (drop (suc i) es) (AllByRecursion-take FitsEntry es i h.fit)
          (AllByRecursion-drop FitsEntry es (suc i) h.fit);
    }

    pub removed_is_remove : from_sorted (list.remove es i) ≡ map.remove m op
    removed_is_remove =
        from_sorted_is (list.remove es i) (map.remove m op) AreGens-remove.sorted (
        sym without_is_remove ∙ ap (without op) (sym (entries_held h e)) ∙ sym (entries-remove m op))

-- ---- the operator would be inserted at index i
module _ {es : Entries} {m : Gens} (h : AreGens es) (e : from_sorted es ≡ m) {op i : ℕ}
    (gap : IsInsertionIndex (entries m) op i) where
  same_gap : IsInsertionIndex es op i
  same_gap = subst (λ xs. IsInsertionIndex xs op i) (entries_held h e) gap

  pub gap_within : i ≤ length es
  gap_within = same_gap.within

  pub get_gap : map.get m op ≡ None
  get_gap =
      get-entries m op ∙ ap (find operator_cmp op) (entries_held h e)
      ∙ find_gap operator_cmp operator_cmp-IsTotalOrder es op i same_gap.before same_gap.after

  pub none_in_gap : IsSome (map.get m op) → ⊥
  none_in_gap there = true≢false (sym there ∙ ap is_some get_gap)

  pub remove_gap : map.remove m op ≡ m
  remove_gap = remove-absent m op get_gap

  put_is_insert : (w : ℕ) → put operator_cmp op w es ≡ list.insert es i (op, w)
  put_is_insert w = put_gap operator_cmp operator_cmp-IsTotalOrder es op w i gap_within same_gap.before same_gap.after

  pub AreGens-insert : (w : ℕ) → op < 2 ^ 16 → w < 2 ^ 16 → AreGens (list.insert es i (op, w))
  AreGens-insert w p q = record {
    sorted = subst (λ xs. IsTrue (is_sorted operator_cmp xs)) (put_is_insert w) (put_rises op w es h.sorted);
    fit =
        AllByRecursion-append FitsEntry (take i es) ((op, w) ∷ drop i es) (AllByRecursion-take FitsEntry es i h.fit)
        ((p, q), AllByRecursion-drop FitsEntry es i h.fit);
  }

  pub inserted_is_insert : (w : ℕ) → op < 2 ^ 16 → w < 2 ^ 16
      → from_sorted (list.insert es i (op, w)) ≡ map.insert m op w
  inserted_is_insert w p q =
      from_sorted_is (list.insert es i (op, w)) (map.insert m op w) (AreGens-insert w p q).sorted (
      sym (put_is_insert w) ∙ ap (put operator_cmp op w) (sym (entries_held h e))
      ∙ sym (entries-insert operator_cmp-IsTotalOrder m op w))

-- ---- the empty map

pub from_sorted-nil : (es : Entries) → es ≡ [] → from_sorted {R = operator_cmp} es ≡ map.empty
from_sorted-nil es e =
    rw e
    (map.empty_of_len (from_sorted [])
    (map.len-entries (from_sorted {R = operator_cmp} []) ∙ ap length (entries-from_sorted operator_cmp [] tt)))

pub len_held : {es : Entries} {m : Gens} → AreGens es → from_sorted es ≡ m → map.len m ≡ length es
len_held {es} {m} h e = map.len-entries m ∙ ap length (entries_held h e)

pub length-empty : {es : Entries} {m : Gens} → AreGens es → from_sorted es ≡ m → m ≡ map.empty → length es ≡ 0
length-empty {es} {m} h e n = sym (len_held h e) ∙ ap map.len n ∙ map.len-empty operator_cmp ℕ

pub empty_of_length : {es : Entries} {m : Gens} → AreGens es → from_sorted es ≡ m → length es ≡ 0 → m ≡ map.empty
empty_of_length {es} {m} h e n = map.empty_of_len m (len_held h e ∙ n)

pub entries-no_gens : entries no_gens ≡ []
entries-no_gens = ap entries (sym (from_sorted-nil [] refl)) ∙ entries-from_sorted operator_cmp [] tt
