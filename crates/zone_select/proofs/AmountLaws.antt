-- The amounts of a zone, by its generators one after another.
use Rattle.std.proofs.Common.{◌≡◌, ◌≤◌, ◌<◌, ℕ, true, false, cond, List, [], ◌∷◌, length, get_or, set}
use Rattle.std.proofs.Common.{Option, Some, None, slice_get, unwrap_or, refl, sym, ap, subst, ◌∙◌, inl, inr, arith}
use Rattle.std.proofs.Common.{true≢false, suc}
use Rattle.std.specs.FinMap.{find, get, entries, get-entries, is_sorted}
use Rattle.std.specs.FinMap.Entries.{below_all}
use Rattle.std.specs.List.{AllByRecursion}
use Rattle.std.specs.Option.{option_map, option_and_then, option_or}
use Rattle.std.specs.Ordering.{ordering_reverse}
use Rattle.std.specs.declared.cmp.Ordering.TheVariants.{Less}
use Rattle.std.proofs.lemmas.Bool.{cases_lt}
use Rattle.std.proofs.lemmas.Bool.Decides.{nat_tests}
use Rattle.std.proofs.lemmas.Option.{unwrap_or-slice_get, slice_get_past, same_Some}
use Rattle.std.proofs.lemmas.List.{get_or_default, get_or-set_same, get_or-set_other, get_or-replicate, length-set, length-replicate}
use Rattle.generators.specs.Gens.{Gens, operator_cmp, AreInOrder}
use Rattle.generators.specs.Indexes.{IsAt, IsInsertionIndex}
use Rattle.generators.specs.Levels.{is_allowed}
use Rattle.generators.specs.Ranges.{is_range_operator}
use Rattle.generators.specs.declared.level.Level.{Level}
use Rattle.generators.specs.declared.level.Level.TheVariants as level
use Rattle.generators.proofs.Entries.{find_at, find_gap, both_true, keys_rise, key_at}
use Rattle.generators.proofs.EntryLaws.{set_is_entry}
use Rattle.generators.proofs.Maps.{entries_rise}
use Rattle.generators.proofs.Order.{operator_cmp-IsTotalOrder, tied, tied_same, tied_is_same}
use Rattle.bank_parts.specs.declared.owners.ZonePlace.TheVariants as place
use Rattle.bank_parts.specs.declared.parts.Zone.{Zone}
use Rattle.bank_parts.specs.declared.parts.ZoneOwner.{ZoneOwner}
use Rattle.bank_parts.specs.Owners.{gens_at, amount_at, entries_at, mods_at}
use Rattle.bank_parts.specs.Valid.{IsGenerator, AreGenerators, IsZone, IsOwner}
use Rattle.bank_changes.proofs.Changes.{all_found}
use Rattle.zone_select.specs.declared.zone_amounts.ZoneAmounts.{ZoneAmounts}
use Rattle.zone_select.specs.At.{zone_settings_in}
use Rattle.zone_select.specs.ZoneSettings.{ZoneSettings, no_amounts, with_amounts, settings_of}

-- ---- an operator among generators in order

pub found : (es : List (ℕ × ℕ)) (op i : ℕ) (d : ℕ × ℕ) → AreInOrder es → IsAt es op i
    → find operator_cmp op es ≡ Some (get_or es i d).1
found es op i d h at =
    find_at operator_cmp operator_cmp-IsTotalOrder es op i h at.within at.same
    ∙ ap (λ (x : ℕ × ℕ). Some x.1) (get_or_default es i (0, 0) d at.within)

pub missing : (es : List (ℕ × ℕ)) (op i : ℕ) → IsInsertionIndex es op i → find operator_cmp op es ≡ None
missing es op i gap = find_gap operator_cmp operator_cmp-IsTotalOrder es op i gap.before gap.after

-- the operator of the first is not among the others
others : (e : ℕ × ℕ) (es : List (ℕ × ℕ)) → AreInOrder (e ∷ es) → find operator_cmp e.0 es ≡ None
others e es h =
    find_gap operator_cmp operator_cmp-IsTotalOrder es e.0 0 (λ j l. absurd (omega arith)) (λ j l m.
    let less : operator_cmp e.0 (key_at es j) ≡ Less =
    keys_rise operator_cmp (e ∷ es) h 0 (suc j) (omega arith) (omega arith) in
    operator_cmp-IsTotalOrder.antisymm (key_at es j) e.0 ∙ ap ordering_reverse less)

-- ---- the amounts by operator

or_none : (o : Option ℕ) → option_or o None ≡ o
or_none None = refl
or_none (Some x) = refl

length-put : (xs : List (Option ℕ)) (es : List (ℕ × ℕ)) → length (with_amounts xs es) ≡ length xs
length-put xs [] = refl
length-put xs (e ∷ es) = length-put (set xs e.0 (Some e.1)) es ∙ length-set xs e.0 (Some e.1)

put_is : (xs : List (Option ℕ)) (es : List (ℕ × ℕ)) (op : ℕ) → AreInOrder es → op < length xs
    → get_or (with_amounts xs es) op None ≡ option_or (find operator_cmp op es) (get_or xs op None)
put_is xs [] op h l = refl
put_is xs (e ∷ es) op h l =
    let rest : AreInOrder es = (both_true (below_all operator_cmp e.0 es) (is_sorted operator_cmp es) h).1 in
    let next = set xs e.0 (Some e.1) in
    let long = length-set xs e.0 (Some e.1) in
    put_is next es op rest (omega (arith, l, long))
    ∙ (elim (tied op e.0) as
    (λ t. tied op e.0 ≡ t → option_or (find operator_cmp op es) (get_or next op None)
    ≡ option_or (cond t (Some e.1) (find operator_cmp op es)) (get_or xs op None)) [
      | true ↦ λ t.
          let same = tied_is_same op e.0 t in
          ap (λ (q : ℕ). option_or (find operator_cmp q es) (get_or next q None)) same
          ∙ ap (λ (o : Option ℕ). option_or o (get_or next e.0 None)) (others e es h)
          ∙ get_or-set_same xs e.0 (Some e.1) None (omega (arith, l, same))
      | false ↦ λ t.
          ap (option_or (find operator_cmp op es))
          (get_or-set_other xs e.0 op (Some e.1) None (λ same. true≢false (sym (ap (tied op) (sym same) ∙ tied_same op) ∙ t)))
    ] refl)

-- ---- a valid bank has no other operators

past : (at : Level) (op : ℕ) → 61 ≤ op → is_allowed at op ≡ false
unfolding is_allowed
past level.Preset op h = grind (arith, nat_tests)
past level.Inst op h = grind (arith, nat_tests)

none_past : (at : Level) (gens : Gens) (op : ℕ) → AreGenerators at gens → 61 ≤ op → get gens op ≡ None
none_past at gens op all h = from (get gens op) refl
  where
    from : (o : Option ℕ) → get gens op ≡ o → get gens op ≡ None
    from None e = e
    from (Some amount) e =
        let j = set_is_entry gens op amount e in
        let allowed = (all_found (IsGenerator at) (entries gens) j.0 (op, amount) j.1 all).allowed in
        absurd (true≢false (sym allowed ∙ past at op h))

amount_is : (gens : Option Gens) (op : ℕ)
    → find operator_cmp op (unwrap_or (option_map entries gens) []) ≡ option_and_then (λ (gens : Gens). get gens op) gens
amount_is None op = refl
amount_is (Some gens) op = sym (get-entries gens op)

amount_past : (at : Level) (gens : Option Gens) → ((m : Gens) → gens ≡ Some m → AreGenerators at m) → (op : ℕ) → 61 ≤ op
    → option_and_then (λ (gens : Gens). get gens op) gens ≡ None
amount_past at None are op h = refl
amount_past at (Some gens) are op h = none_past at gens op (are gens refl) h

in_order : (gens : Option Gens) → AreInOrder (unwrap_or (option_map entries gens) [])
in_order None = refl
in_order (Some gens) = entries_rise gens

-- ---- the settings of zone k of owner i

module _ {H : Type 0} (name_of : H → List ℕ) (at : Level) (targets : ℕ) (owners : List (ZoneOwner H))
    (valid : AllByRecursion (IsOwner name_of at targets) owners) (i k : ℕ) where
  global_gens : (o : Option (ZoneOwner H)) → slice_get owners i ≡ o → (m : Gens)
      → option_map (λ (x : ZoneOwner H). x.global.gens) o ≡ Some m → AreGenerators at m
  global_gens None e m h = cc
  global_gens (Some x) e m h =
      subst (AreGenerators at) (same_Some _ _ h)
      (all_found (IsOwner name_of at targets) owners i x e valid).zones.global

  zone_gens : (o : Option (ZoneOwner H)) → slice_get owners i ≡ o → (m : Gens)
      → option_map (λ (z : Zone). z.gens) (option_and_then (λ (x : ZoneOwner H). slice_get x.zones k) o) ≡ Some m
      → AreGenerators at m
  zone_gens None e m h = cc
  zone_gens (Some x) e m h = from (slice_get x.zones k) refl h
    where
      from : (o : Option Zone) → slice_get x.zones k ≡ o → option_map (λ (z : Zone). z.gens) o ≡ Some m
          → AreGenerators at m
      from None f h = cc
      from (Some z) f h =
          let zones = (all_found (IsOwner name_of at targets) owners i x e valid).zones.zones in
          subst (AreGenerators at) (same_Some _ _ h) (all_found (IsZone at targets) x.zones k z f zones).gens

  own : List (ℕ × ℕ)
  own = unwrap_or (entries_at owners i (place.Zone k)) []

  above : List (ℕ × ℕ)
  above = unwrap_or (entries_at owners i place.Global) []

  amounts_are : (op : ℕ)
      → unwrap_or (slice_get (with_amounts (with_amounts no_amounts above) own) op) None
      ≡ option_or (amount_at owners i (place.Zone k) op) (amount_at owners i place.Global op)
  unfolding own above
  amounts_are op =
      let unset : Option ℕ = None in
      let first = with_amounts no_amounts above in
      let long : length no_amounts ≡ 61 = length-replicate 61 unset in
      let long_first : length first ≡ 61 = length-put no_amounts above ∙ long in
      let long_both : length (with_amounts first own) ≡ 61 = length-put first own ∙ long_first in
      let own_is = amount_is (gens_at owners i (place.Zone k)) op in
      let above_is = amount_is (gens_at owners i place.Global) op in
      elim (cases_lt op 61) [
        | inl l ↦ unwrap_or-slice_get (with_amounts first own) op None
            ∙ put_is first own op (in_order (gens_at owners i (place.Zone k))) (omega (arith, l, long_first))
            ∙ ap (option_or (find operator_cmp op own))
            (put_is no_amounts above op (in_order (gens_at owners i place.Global)) (omega (arith, l, long))
            ∙ ap (option_or (find operator_cmp op above)) (get_or-replicate 61 op unset unset l)
            ∙ or_none (find operator_cmp op above))
            ∙ (λ j. option_or (own_is j) (above_is j))
        | inr l ↦ ap (λ (o : Option (Option ℕ)). unwrap_or o None)
            (slice_get_past (with_amounts first own) op (omega (arith, l, long_both)))
            ∙ sym
            (λ j. option_or
            (amount_past at (gens_at owners i (place.Zone k)) (zone_gens (slice_get owners i) refl) op l j)
            (amount_past at (gens_at owners i place.Global) (global_gens (slice_get owners i) refl) op l j))
      ]

  pub settings_are : (z : ZoneAmounts)
      → z.amounts
      ≡ with_amounts (with_amounts no_amounts (unwrap_or (entries_at owners i place.Global) []))
      (unwrap_or (entries_at owners i (place.Zone k)) [])
      → z.mods.now ≡ unwrap_or (mods_at owners i (place.Zone k)) []
      → z.inherited.now ≡ unwrap_or (mods_at owners i place.Global) []
      → settings_of z ≡ zone_settings_in owners i k
  unfolding settings_of own above
  settings_are z e m n =
      let same : (op : ℕ) → unwrap_or (slice_get z.amounts op) None
      ≡ option_or (amount_at owners i (place.Zone k) op) (amount_at owners i place.Global op) =
      λ op. ap (λ (xs : List (Option ℕ)). unwrap_or (slice_get xs op) None) e ∙ amounts_are op in
      λ j. let t : ZoneSettings = record {
        settings = λ op. cond (is_range_operator op) None (same op j);
        mods = m j;
        inherited = n j;
      } in t
