-- Repairing the ranges of the kept records in the map.
use Rattle.std.proofs.Common.{◌≡◌, ◌≢◌, ◌+◌, ℕ, Bool, true, false, cond, not, ◌||◌, ◌&&◌, eqb, List, [], ◌∷◌, map}
use Rattle.std.proofs.Common.{Option, Some, None, refl, sym, ap, ◌∙◌, inl, inr, arith}
use Rattle.std.specs.Prelude.{count_by}
use Rattle.std.specs.List.{list_any}
use Rattle.std.specs.Option.{option_map}
use Rattle.std.specs.FinMap.{get, insert, find, get-from_entries}
use Rattle.std.proofs.lemmas.Bool.{cases_eq, eq-eqb, ne_eqb}
use Rattle.std.proofs.lemmas.List.Sums.{sum_by-cons}
use Rattle.generators.specs.Gens.{Gens, operator_cmp}
use Rattle.generators.specs.Ranges.{is_range_operator}
use Rattle.generators.proofs.Order.{operator_cmp-IsTotalOrder, tied, tied_same, tied_is_same, untied}
use Rattle.generators.proofs.MapLaws.{same_gens, get-insert_any}
use Rattle.hydra_records.specs.declared.zone.Generator.{Generator}
use Rattle.bank_format.specs.Zones.{last_of_each, gens_of, repaired, needs_repair, repaired_range}
use Rattle.sf_reader.specs.Gens.{entry_of, one_if, is_out_of_order, repaired_at}

-- ---- amounts

abbrev amount_repaired : ℕ → ℕ → ℕ
amount_repaired op w = cond (is_range_operator op) (repaired_range w) w

entry_repaired : (r : Generator) → entry_of (repaired r) ≡ (r.operator, amount_repaired r.operator r.amount)
entry_repaired r =
    elim (is_range_operator r.operator) as
    (λ b.
    entry_of (cond b (record { operator = r.operator; amount = repaired_range r.amount }) r)
    ≡ (r.operator, cond b (repaired_range r.amount) r.amount))
    [ true ↦ refl | false ↦ refl ]

find-repaired : (q : ℕ) (rs : List Generator)
    → find operator_cmp q (map entry_of (map repaired rs))
    ≡ option_map (amount_repaired q) (find operator_cmp q (map entry_of rs))
find-repaired q [] = refl
find-repaired q (r ∷ rs) =
    let rest = find-repaired q rs in
    ap (λ (e : ℕ × ℕ). find operator_cmp q (e ∷ map entry_of (map repaired rs))) (entry_repaired r)
    ∙ elim (tied q r.operator) as
    (λ t.
    tied q r.operator ≡ t
    → cond t (Some (amount_repaired r.operator r.amount)) (find operator_cmp q (map entry_of (map repaired rs)))
    ≡ option_map (amount_repaired q) (cond t (Some r.amount) (find operator_cmp q (map entry_of rs)))) [
      | true ↦ λ t. ap (λ (op : ℕ). Some (amount_repaired op r.amount)) (sym (tied_is_same q r.operator t))
      | false ↦ λ t. rest
    ] refl

-- ---- the map of repaired records

get-repaired_at : (op q : ℕ) (m : Gens)
    → get (repaired_at op m) q ≡ cond (tied q op) (option_map repaired_range (get m q)) (get m q)
get-repaired_at op q m =
    elim (get m op) as
    (λ o.
    get m op ≡ o
    → get (elim o as (λ x. Gens) [ None ↦ m | Some w ↦ insert m op (repaired_range w) ]) q
    ≡ cond (tied q op) (option_map repaired_range (get m q)) (get m q)) [
      | None ↦ λ e.
          elim (tied q op) as (λ t. tied q op ≡ t → get m q ≡ cond t (option_map repaired_range (get m q)) (get m q)) [
            | true ↦ λ t. (let none : get m q ≡ None = ap (get m) (tied_is_same q op t) ∙ e in rw none refl)
            | false ↦ λ t. refl
          ] refl
      | Some w ↦ λ e.
          get-insert_any m op (repaired_range w) q
          ∙ elim (tied q op) as
          (λ t.
          tied q op ≡ t
          → cond t (Some (repaired_range w)) (get m q)
          ≡ cond t (option_map repaired_range (get m q)) (get m q)) [
            | true ↦ λ t. (let some : get m q ≡ Some w = ap (get m) (tied_is_same q op t) ∙ e in rw some refl)
            | false ↦ λ t. refl
          ] refl
    ] refl

option_map-same : (f : ℕ → ℕ) → ((w : ℕ) → f w ≡ w) → (o : Option ℕ) → option_map f o ≡ o
option_map-same f same None = refl
option_map-same f same (Some w) = ap Some (same w)

other_amount : (q w : ℕ) → q ≢ 43 → q ≢ 44 → amount_repaired q w ≡ w
other_amount q w n k = rw (ne_eqb q 43 n, ne_eqb q 44 k) refl

-- the amount of an operator after both repairs
repaired_amount_at : (q : ℕ) (o : Option ℕ)
    → cond (tied q 44) (option_map repaired_range (cond (tied q 43) (option_map repaired_range o) o))
    (cond (tied q 43) (option_map repaired_range o) o)
    ≡ option_map (amount_repaired q) o
repaired_amount_at q o = elim (cases_eq q 43) [
  | inl e ↦ rw e refl
  | inr n ↦ elim (cases_eq q 44) [
    | inl e ↦ rw e refl
    | inr k ↦ rw (untied q 43 n, untied q 44 k) (sym (option_map-same (amount_repaired q) (λ w. other_amount q w n k) o))
  ]
]

get-gens_of : (rs : List Generator) (q : ℕ) → get (gens_of rs) q ≡ find operator_cmp q (map entry_of rs)
get-gens_of rs q = get-from_entries operator_cmp-IsTotalOrder (map entry_of rs) q

pub repaired_gens : (rs : List Generator) → repaired_at 44 (repaired_at 43 (gens_of rs)) ≡ gens_of (map repaired rs)
repaired_gens rs =
    let m = gens_of rs in
    same_gens (repaired_at 44 (repaired_at 43 m)) (gens_of (map repaired rs)) (λ q.
    get-repaired_at 44 q (repaired_at 43 m)
    ∙ ap (λ (o : Option ℕ). cond (tied q 44) (option_map repaired_range o) o) (get-repaired_at 43 q m)
    ∙ repaired_amount_at q (get m q)
    ∙ ap (option_map (amount_repaired q)) (get-gens_of rs q)
    ∙ sym (get-gens_of (map repaired rs) q ∙ find-repaired q rs))

-- ---- how many ranges are repaired

abbrev changes : ℕ → Bool
changes w = not (eqb (repaired_range w) w)

-- a record with this operator and a range that must be repaired
abbrev changes_at : ℕ → Generator → Bool
changes_at op r = eqb r.operator op && changes r.amount

abbrev amount_changes : Option ℕ → Bool
amount_changes o = elim o [ None ↦ false | Some w ↦ changes w ]

count_by-cons : (p : Generator → Bool) (r : Generator) (rs : List Generator)
    → count_by p (r ∷ rs) ≡ one_if (p r) + count_by p rs
count_by-cons p r rs = sum_by-cons (λ x. cond (p x) 1 0) r rs

either_range : (r : Generator) → one_if (needs_repair r) ≡ one_if (changes_at 43 r) + one_if (changes_at 44 r)
either_range r = elim (cases_eq r.operator 43) [
  | inl e ↦ rw e (elim (changes r.amount) as (λ b. one_if b ≡ one_if b + 0) [ true ↦ refl | false ↦ refl ])
  | inr n ↦
      let keys : one_if (changes_at 43 r) ≡ 0 = rw (ne_eqb r.operator 43 n) refl in
      let either : one_if (needs_repair r) ≡ one_if (changes_at 44 r) = rw (ne_eqb r.operator 43 n) refl in
      omega (arith, keys, either)
]

both_ranges : (rs : List Generator) → count_by needs_repair rs ≡ count_by (changes_at 43) rs + count_by (changes_at 44) rs
both_ranges [] = refl
both_ranges (r ∷ rs) =
    omega (
      arith,
      both_ranges rs,
      either_range r,
      count_by-cons needs_repair r rs,
      count_by-cons (changes_at 43) r rs,
      count_by-cons (changes_at 44) r rs,
    )

-- no record has this operator
none_changes : (op : ℕ) (rs : List Generator) → list_any (λ (x : Generator). eqb x.operator op) rs ≡ false
    → count_by (changes_at op) (last_of_each rs) ≡ 0
none_changes op [] e = refl
none_changes op (r ∷ rs) e =
    elim (eqb r.operator op) as
    (λ b.
    eqb r.operator op ≡ b → (b || list_any (λ (x : Generator). eqb x.operator op) rs) ≡ false
    → count_by (changes_at op) (last_of_each (r ∷ rs)) ≡ 0) [
      | true ↦ λ t h. absurd (Rattle.std.proofs.Common.true≢false h)
      | false ↦ λ t h.
          let rest = none_changes op rs h in
          let here : one_if (changes_at op r) ≡ 0 = rw t refl in
          elim (list_any (λ (x : Generator). eqb x.operator r.operator) rs) as
          (λ s. count_by (changes_at op) (cond s (last_of_each rs) (r ∷ last_of_each rs)) ≡ 0) [
            | true ↦ rest
            | false ↦ omega (arith, count_by-cons (changes_at op) r (last_of_each rs), here, rest)
          ]
    ] refl e

changes_found : (op : ℕ) (rs : List Generator)
    → count_by (changes_at op) (last_of_each rs)
    ≡ one_if (amount_changes (find operator_cmp op (map entry_of (last_of_each rs))))
changes_found op [] = refl
changes_found op (r ∷ rs) =
    let lasts = last_of_each rs in
    let rest = changes_found op rs in
    elim (list_any (λ (x : Generator). eqb x.operator r.operator) rs) as
    (λ s.
    list_any (λ (x : Generator). eqb x.operator r.operator) rs ≡ s
    → count_by (changes_at op) (cond s lasts (r ∷ lasts))
    ≡ one_if (amount_changes (find operator_cmp op (map entry_of (cond s lasts (r ∷ lasts)))))) [
      | true ↦ λ s. rest
      | false ↦ λ s.
          let whole = count_by-cons (changes_at op) r lasts in
          elim (cases_eq r.operator op) [
            | inl e ↦
                let others : count_by (changes_at op) lasts ≡ 0 = rw (← e) (none_changes r.operator rs s) in
                let here : one_if (changes_at op r) ≡ one_if (changes r.amount) = rw (eq-eqb r.operator op e) refl in
                let found : one_if (amount_changes (find operator_cmp op (map entry_of (r ∷ lasts))))
                ≡ one_if (changes r.amount) =
                rw (e, tied_same op) refl in
                omega (arith, others, whole, here, found)
            | inr n ↦
                let here : one_if (changes_at op r) ≡ 0 = rw (ne_eqb r.operator op n) refl in
                let found : one_if (amount_changes (find operator_cmp op (map entry_of (r ∷ lasts))))
                ≡ one_if (amount_changes (find operator_cmp op (map entry_of lasts))) =
                rw (untied op r.operator (λ k. n (sym k))) refl in
                omega (arith, rest, whole, here, found)
          ]
    ] refl

pub repaired_count : (rs : List Generator)
    → one_if (is_out_of_order 43 (gens_of (last_of_each rs)))
    + one_if (is_out_of_order 44 (gens_of (last_of_each rs)))
    ≡ count_by needs_repair (last_of_each rs)
repaired_count rs =
    let lasts = last_of_each rs in
    let keys : one_if (is_out_of_order 43 (gens_of lasts)) ≡ count_by (changes_at 43) lasts =
    ap (λ (o : Option ℕ). one_if (amount_changes o)) (get-gens_of lasts 43) ∙ sym (changes_found 43 rs) in
    let velocities : one_if (is_out_of_order 44 (gens_of lasts)) ≡ count_by (changes_at 44) lasts =
    ap (λ (o : Option ℕ). one_if (amount_changes o)) (get-gens_of lasts 44) ∙ sym (changes_found 44 rs) in
    omega (arith, keys, velocities, both_ranges lasts)

-- repairing the key range does not affect the velocity range
pub second_range : (m : Gens) → is_out_of_order 44 (repaired_at 43 m) ≡ is_out_of_order 44 m
second_range m = ap amount_changes (get-repaired_at 43 44 m)
