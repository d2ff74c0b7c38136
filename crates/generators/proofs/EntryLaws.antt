-- Laws of the entries of a map: their order, what is set, and that they make the map.
use Rattle.std.proofs.Common.{◌≡◌, ◌<◌, ◌≤◌, ◌+◌, ◌^◌, ℕ, zero, suc, Bool, true, false, cond, not, [], ◌∷◌, length}
use Rattle.std.proofs.Common.{Option, Some, None, true≢false, refl, sym, ap, subst, ◌∙◌, inl, inr, arith}
use Rattle.std.specs.Prelude.{IsTrue, slice_get, sum_by, if◌then◌else◌, ◌==◌, nat_lt}
use Rattle.std.specs.List.{AllByRecursion}
use Rattle.std.specs.declared.cmp.Ordering.TheVariants.{Less, Equal, Greater}
use Rattle.std.specs.Ordering.{is_eq, is_lt, eq_by_cmp, nat_cmp}
use Rattle.std.specs.Cmp.{tied_itself}
use Rattle.std.specs.FinMap.{insert, remove, entries, from_entries, is_sorted, find, put, entries-insert}
use Rattle.std.specs.FinMap.{get-entries, get-from_entries, len-entries}
use Rattle.std.specs.FinMap.Entries.{by_order, where_key, below_all}
use Rattle.std.proofs.lemmas.Option.{slice_get_within, get_or_from_slice_get, none-some, same_Some}
use Rattle.std.proofs.lemmas.List.{get_or-map, length-map}
use Rattle.std.proofs.lemmas.Bool.{cases_order}
use Rattle.std.proofs.lemmas.Bool.Decides.{nat_tests}
use Rattle.generators.specs.Gens.{rank, operator_cmp, Gens, no_gens, FitEntries, AreGens}
use Rattle.generators.specs.Laws.{RanksRise, EachOperatorOnce, EntriesAreSet, SetIsEntry, EntriesGiveTheMap}
use Rattle.generators.proofs.Order.{operator_cmp-IsTotalOrder, operator_cmp-IsAntisymmetric, tied, tied_is_same}
use Rattle.generators.proofs.Entries.{Entries, key_at, keys_rise, find_at, both_true, is_less}
use Rattle.generators.proofs.Maps.{entries_rise, entries-remove, entries-no_gens}
use Rattle.std.proofs.lemmas.List.Sums.{sum_by-cons}
use Rattle.std.proofs.lemmas.List.Sorted.{sum_by-IsPermutation, IsPermutation-refl}
use Rattle.generators.proofs.MapLaws.{same_gens}

-- ---- the order of entries

less_below : (a b : ℕ) → nat_cmp a b ≡ Less → a < b
less_below a b e = grind (arith, nat_tests)

pub ranks_rise : RanksRise
ranks_rise m k l =
    let es = entries m in
    let more : k + 1 < length es = omega (arith, length-map es (λ (e : ℕ × ℕ). rank e.0)) in
    rw (
      get_or-map (λ (e : ℕ × ℕ). rank e.0) es k (0, 0) 0 (omega arith),
      get_or-map (λ (e : ℕ × ℕ). rank e.0) es (k + 1) (0, 0) 0 more,
    )
    (less_below _ _ (keys_rise operator_cmp es (entries_rise m) k (k + 1) (omega arith) more))

not_less : (x y : ℕ) → x ≡ y → operator_cmp x y ≡ Less → ⊥
not_less x y e h = true≢false (ap is_eq (sym (tied_itself operator_cmp-IsTotalOrder x) ∙ ap (operator_cmp x) e ∙ h))

pub each_operator_once : EachOperatorOnce
each_operator_once m i j l k e =
    let es = entries m in
    let within_i : i < length es = rw (← len-entries m) l in
    let within_j : j < length es = rw (← len-entries m) k in
    elim (cases_order i j) [
      | inl same ↦ same
      | inr (inl less) ↦ absurd
          (not_less (key_at es i) (key_at es j) e (keys_rise operator_cmp es (entries_rise m) i j less within_j))
      | inr (inr more) ↦ absurd
          (not_less (key_at es j) (key_at es i) (sym e)
          (keys_rise operator_cmp es (entries_rise m) j i more within_i))
    ]

-- ---- what is set

pub entries_are_set : EntriesAreSet
entries_are_set m j op w e =
    let es = entries m in
    let within = slice_get_within es j (op, w) e in
    let is = get_or_from_slice_get es j (op, w) (0, 0) e in
    get-entries m op
    ∙ find_at operator_cmp operator_cmp-IsTotalOrder es op j (entries_rise m) within (ap (λ (x : ℕ × ℕ). x.0) is)
    ∙ ap (λ (x : ℕ × ℕ). Some x.1) is

found_is_entry : (es : Entries) (op w : ℕ) → find operator_cmp op es ≡ Some w
    → (j : ℕ) × (slice_get es j ≡ Some (op, w))
found_is_entry [] op w h = absurd (none-some w h)
found_is_entry (e ∷ es) op w h =
    elim (tied op e.0) as
    (λ b.
    tied op e.0 ≡ b → cond b (Some e.1) (find operator_cmp op es) ≡ Some w
    → (j : ℕ) × (slice_get (e ∷ es) j ≡ Some (op, w))) [
      | true ↦ λ t is. (0, let k = tied_is_same op e.0 t in let v = same_Some e.1 w is in λ i. Some (sym k i, v i))
      | false ↦ λ t is. let rest = found_is_entry es op w is in (suc rest.0, rest.1)
    ] refl h

pub set_is_entry : SetIsEntry
set_is_entry m op w h = found_is_entry (entries m) op w (sym (get-entries m op) ∙ h)

-- ---- properties of all entries

module _ (P : ℕ × ℕ → Type 0) where
  All-put : (op w : ℕ) (es : Entries) → P (op, w) → AllByRecursion P es → AllByRecursion P (put operator_cmp op w es)
  All-put op w [] p ps = (p, tt)
  All-put op w (e ∷ es) p ps =
      elim (operator_cmp op e.0) as
      (λ r.
      operator_cmp op e.0 ≡ r
      → AllByRecursion P (by_order r ((op, w) ∷ e ∷ es) ((e.0, w) ∷ es) (e ∷ put operator_cmp op w es))) [
        | Less ↦ λ h. (p, ps)
        | Equal ↦ λ h. (subst (λ k. P (k, w)) (operator_cmp-IsAntisymmetric op e.0 h) p, ps.1)
        | Greater ↦ λ h. (ps.0, All-put op w es p ps.1)
      ] refl

  All-where_key : (p : ℕ → Bool) (es : Entries) → AllByRecursion P es → AllByRecursion P (where_key operator_cmp p es)
  All-where_key p [] ps = tt
  All-where_key p (e ∷ es) ps =
      let rest = All-where_key p es ps.1 in
      elim (p e.0) as
      (λ b. AllByRecursion P (cond b (e ∷ where_key operator_cmp p es) (where_key operator_cmp p es)))
      [ true ↦ (ps.0, rest) | false ↦ rest ]

  -- A property of all entries of a map, and of a new one.
  pub All-insert : (m : Gens) (op w : ℕ) → P (op, w) → AllByRecursion P (entries m)
      → AllByRecursion P (entries (insert m op w))
  All-insert m op w p ps = rw (entries-insert operator_cmp-IsTotalOrder m op w) (All-put op w (entries m) p ps)

  pub All-remove : (m : Gens) (op : ℕ) → AllByRecursion P (entries m) → AllByRecursion P (entries (remove m op))
  All-remove m op ps = rw (entries-remove m op) (All-where_key (λ x. not (eq_by_cmp operator_cmp op x)) (entries m) ps)

  pub All-no_gens : AllByRecursion P (entries no_gens)
  All-no_gens = rw entries-no_gens tt

  All-slice_get : (es : Entries) (j op w : ℕ) → AllByRecursion P es → slice_get es j ≡ Some (op, w) → P (op, w)
  All-slice_get [] j op w ps e = absurd (none-some (op, w) e)
  All-slice_get (x ∷ es) zero op w ps e = subst P (same_Some x (op, w) e) ps.0
  All-slice_get (x ∷ es) (suc j) op w ps e = All-slice_get es j op w ps.1 e

-- ---- entries in any order

-- One more than the amount that is found, or 0.
code : Option ℕ → ℕ
code None = 0
code (Some w) = suc w

same_code : (a b : Option ℕ) → code a ≡ code b → a ≡ b
unfolding code
same_code None None e = refl
same_code None (Some w) e = absurd (omega arith)
same_code (Some v) None e = absurd (omega arith)
same_code (Some v) (Some w) e = ap Some (omega arith)

-- The number of entries of an operator, and the sum of the codes of their amounts.
times : ℕ → Entries → ℕ
times op es = sum_by (λ (e : ℕ × ℕ). if tied op e.0 then 1 else 0) es

codes : ℕ → Entries → ℕ
codes op es = sum_by (λ (e : ℕ × ℕ). if tied op e.0 then suc e.1 else 0) es

times-cons : (op : ℕ) (e : ℕ × ℕ) (es : Entries) → times op (e ∷ es) ≡ (if tied op e.0 then 1 else 0) + times op es
unfolding times
times-cons op e es = sum_by-cons (λ (e : ℕ × ℕ). if tied op e.0 then 1 else 0) e es

codes-cons : (op : ℕ) (e : ℕ × ℕ) (es : Entries)
    → codes op (e ∷ es) ≡ (if tied op e.0 then suc e.1 else 0) + codes op es
unfolding codes
codes-cons op e es = sum_by-cons (λ (e : ℕ × ℕ). if tied op e.0 then suc e.1 else 0) e es

codes-none : (op : ℕ) (es : Entries) → times op es ≡ 0 → codes op es ≡ 0
unfolding times codes
codes-none op [] h = refl
codes-none op (e ∷ es) h = grind (arith, times-cons op e es, codes-cons op e es, codes-none op es)

-- An operator with at most one entry.
codes-find : (op : ℕ) (es : Entries) → times op es ≤ 1 → codes op es ≡ code (find operator_cmp op es)
unfolding times codes code
codes-find op [] h = refl
codes-find op (e ∷ es) h =
    let counted = times-cons op e es in
    let coded = codes-cons op e es in
    elim (tied op e.0) as
    (λ b. tied op e.0 ≡ b → codes op (e ∷ es) ≡ code (cond b (Some e.1) (find operator_cmp op es))) [
      | true ↦ λ t. grind (arith, codes-none op es)
      | false ↦ λ t. grind (arith, codes-find op es)
    ] refl

none_above : (op : ℕ) (es : Entries) → IsTrue (below_all operator_cmp op es) → times op es ≡ 0
unfolding times
none_above op [] h = refl
none_above op (e ∷ es) h =
    let parts = both_true (is_lt (operator_cmp op e.0)) (below_all operator_cmp op es) h in
    let apart : tied op e.0 ≡ false = ap is_eq (is_less (operator_cmp op e.0) parts.0) in
    let rest = none_above op es parts.1 in
    times-cons op e es ∙ rw (apart, rest) refl

once_risen : (op : ℕ) (es : Entries) → IsTrue (is_sorted operator_cmp es) → times op es ≤ 1
unfolding times
once_risen op [] h = omega arith
once_risen op (e ∷ es) h =
    let parts = both_true (below_all operator_cmp e.0 es) (is_sorted operator_cmp es) h in
    let rest = once_risen op es parts.1 in
    let counted = times-cons op e es in
    elim (tied op e.0) as (λ b. tied op e.0 ≡ b → times op (e ∷ es) ≤ 1) [
      | true ↦ λ t. let none : times op es ≡ 0 = rw (tied_is_same op e.0 t) (none_above e.0 es parts.0) in grind (arith)
      | false ↦ λ t. grind (arith)
    ] refl

pub entries_give_the_map : EntriesGiveTheMap
unfolding times codes
entries_give_the_map m es h =
    let old = entries m in
    same_gens (from_entries es) m (λ q.
    let times_same : times q es ≡ times q old =
    sum_by-IsPermutation (λ (e : ℕ × ℕ). if tied q e.0 then 1 else 0) old es h in
    let codes_same : codes q es ≡ codes q old =
    sum_by-IsPermutation (λ (e : ℕ × ℕ). if tied q e.0 then suc e.1 else 0) old es h in
    let once = once_risen q old (entries_rise m) in
    let found : code (find operator_cmp q es) ≡ code (find operator_cmp q old) =
    sym (codes-find q es (omega arith)) ∙ codes_same ∙ codes-find q old once in
    get-from_entries operator_cmp-IsTotalOrder es q
    ∙ same_code (find operator_cmp q es) (find operator_cmp q old) found ∙ sym (get-entries m q))

-- Setting a map's entries again makes the map.
pub from_entries-entries : (m : Gens) → from_entries (entries m) ≡ m
from_entries-entries m = entries_give_the_map m (entries m) (IsPermutation-refl (entries m))

-- ---- the number of entries

-- The index of an operator among all operators.
order_of : ℕ → ℕ
order_of op = if op == 43 then 0 else if op == 44 then 1 else if nat_lt op 43 then op + 2 else op

order_of-less : (x y : ℕ) → operator_cmp x y ≡ Less → order_of x < order_of y
unfolding order_of
order_of-less x y e = grind (arith, nat_tests)

order_of-fits : (x : ℕ) → x < 2 ^ 16 → order_of x < 65536
unfolding order_of
order_of-fits x h = grind (arith, nat_tests)

length_from : (x : ℕ) (es : Entries) → x < 2 ^ 16 → IsTrue (below_all operator_cmp x es)
    → IsTrue (is_sorted operator_cmp es) → FitEntries es → order_of x + length es < 65536
length_from x [] f h s fs = omega (arith, order_of-fits x f)
length_from x (e ∷ es) f h s fs =
    let above = both_true (is_lt (operator_cmp x e.0)) (below_all operator_cmp x es) h in
    let parts = both_true (below_all operator_cmp e.0 es) (is_sorted operator_cmp es) s in
    omega (
      arith,
      order_of-less x e.0 (is_less (operator_cmp x e.0) above.0),
      length_from e.0 es fs.0.0 parts.0 parts.1 fs.1,
    )

pub length_bounded : (es : Entries) → AreGens es → length es ≤ 65536
length_bounded [] h = omega arith
length_bounded (e ∷ es) h =
    let parts = both_true (below_all operator_cmp e.0 es) (is_sorted operator_cmp es) h.sorted in
    let fits = h.fit in
    omega (arith, length_from e.0 es fits.0.0 parts.0 parts.1 fits.1)
