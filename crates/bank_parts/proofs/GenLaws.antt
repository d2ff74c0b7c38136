-- A map of generators as its entries, and its changes as changes of the entries.
use Rattle.std.proofs.Common.{◌≡◌, ◌≢◌, ◌<◌, ◌^◌, ℕ, Bool, true, false, cond, List, [], length, get_or, set, Option}
use Rattle.std.proofs.Common.{Some, None, refl, sym, subst, ◌∙◌, ap, arith}
use Rattle.std.specs.List as list
use Rattle.std.specs.FinMap as map
use Rattle.std.specs.Option.{IfSome, option_map}
use Rattle.std.specs.FinMap.{entries}
use Rattle.generators.specs.Gens.{Gens, FitGens, FitsEntry, AreGens, AreInOrder}
use Rattle.generators.specs.Indexes.{IsAt, IsInsertionIndex}
use Rattle.generators.proofs.Order.{tied, untied}
use Rattle.generators.proofs.MapLaws.{get-insert_any, get-remove_any}
use Rattle.generators.proofs.EntryLaws.{All-insert, All-remove}
use Rattle.generators.proofs.Maps.{entries_rise, entries_held, get_at, get_gap, remove_gap, AreGens-set}
use Rattle.generators.proofs.Maps.{set_is_insert, AreGens-insert, inserted_is_insert, AreGens-remove}
use Rattle.generators.proofs.Maps.{removed_is_remove}
use Rattle.bank_parts.specs.Bagged.{IsPlain}
use Rattle.bank_parts.proofs.ReadLaws.{gens-back}

pub are_gens : (m : Gens) → FitGens m → AreGens (entries m)
are_gens m fit = record { sorted = entries_rise m; fit = fit }

pub in_order : (m : Gens) (es : List (ℕ × ℕ)) → entries m ≡ es → AreInOrder es
in_order m es e = subst AreInOrder e (entries_rise m)

-- ---- an operator found at an index

module _ (m : Gens) (fit : FitGens m) (op j : ℕ) (at : IsAt (entries m) op j) where
  pub found_amount : (d : ℕ × ℕ) → map.get m op ≡ Some (get_or (entries m) j d).1
  found_amount d = get_at (are_gens m fit) (gens-back m) at d

  pub entries-set : (w : ℕ) → op < 2 ^ 16 → w < 2 ^ 16 → entries (map.insert m op w) ≡ set (entries m) j (op, w)
  entries-set w p q =
      entries_held (AreGens-set (are_gens m fit) (gens-back m) at w p q)
      (set_is_insert (are_gens m fit) (gens-back m) at w p q)

  pub entries-removed : entries (map.remove m op) ≡ list.remove (entries m) j
  entries-removed =
      entries_held (AreGens-remove (are_gens m fit) (gens-back m) at)
      (removed_is_remove (are_gens m fit) (gens-back m) at)

-- ---- an operator to be inserted at an index

module _ (m : Gens) (fit : FitGens m) (op j : ℕ) (gap : IsInsertionIndex (entries m) op j) where
  pub no_amount : map.get m op ≡ None
  no_amount = get_gap (are_gens m fit) (gens-back m) gap

  pub nothing_removed : map.remove m op ≡ m
  nothing_removed = remove_gap (are_gens m fit) (gens-back m) gap

  pub entries-inserted : (w : ℕ) → op < 2 ^ 16 → w < 2 ^ 16
      → entries (map.insert m op w) ≡ list.insert (entries m) j (op, w)
  entries-inserted w p q =
      entries_held (AreGens-insert (are_gens m fit) (gens-back m) gap w p q)
      (inserted_is_insert (are_gens m fit) (gens-back m) gap w p q)

-- no operator is set
pub empty_gap : (es : List (ℕ × ℕ)) (op : ℕ) → es ≡ [] → IsInsertionIndex es op 0
empty_gap es op e =
    let none = ap length e in
    record { within = omega arith; before = λ j less. absurd (omega arith); after = λ j le less. absurd (omega arith) }

-- ---- maps stay plain

asked_none : (b : Bool) → ◌≡◌ {A = Option ℕ} (cond b None None) None
asked_none true = refl
asked_none false = refl

pub plain-insert : (t : ℕ) (m : Gens) (op w : ℕ) → t ≢ op → op < 2 ^ 16 → w < 2 ^ 16 → IsPlain t m
    → IsPlain t (map.insert m op w)
plain-insert t m op w other p q plain = record {
  unset = get-insert_any m op w t ∙ (ap (λ b. cond b (Some w) (map.get m t)) (untied t op other) ∙ plain.unset);
  fit = All-insert FitsEntry m op w (p, q) plain.fit;
}

pub plain-remove : (t : ℕ) (m : Gens) (op : ℕ) → IsPlain t m → IsPlain t (map.remove m op)
plain-remove t m op plain = record {
  unset = get-remove_any m op t ∙ (ap (cond (tied t op) None) plain.unset ∙ asked_none (tied t op));
  fit = All-remove FitsEntry m op plain.fit;
}

-- ---- an optional map, by its entries

pub amount_found : (o : Option Gens) (es : List (ℕ × ℕ)) (op j : ℕ) (d : ℕ × ℕ) → option_map entries o ≡ Some es
    → IfSome o FitGens → IsAt es op j
    → IfSome o (λ (m : Gens). Some (get_or es j d).1 ≡ map.get m op)
amount_found None es op j d e fit at = tt
amount_found (Some m) es op j d e fit at =
    let same : entries m ≡ es = cc in
    let was = found_amount m fit op j (subst (λ es. IsAt es op j) (sym same) at) d in
    ap (λ es. Some (get_or es j d).1) (sym same) ∙ sym was

pub amount_missing : (o : Option Gens) (es : List (ℕ × ℕ)) (op j : ℕ) → option_map entries o ≡ Some es
    → IfSome o FitGens → IsInsertionIndex es op j → IfSome o (λ (m : Gens). None ≡ map.get m op)
amount_missing None es op j e fit gap = tt
amount_missing (Some m) es op j e fit gap =
    let same : entries m ≡ es = cc in
    sym (no_amount m fit op j (subst (λ es. IsInsertionIndex es op j) (sym same) gap))
