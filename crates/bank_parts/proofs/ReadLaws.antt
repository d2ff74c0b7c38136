-- Presets or instruments read back from their bags.
use Rattle.std.proofs.Common.{if◌then◌else◌, ◌≡◌, ℕ, ◌<◌, ◌+◌, ◌==◌, Bool, true, false, suc, zero, List, [], ◌∷◌}
use Rattle.std.proofs.Common.{◌++◌, length, map, take, slice_get, Some, None, refl, sym, subst, ◌∙◌, ap, arith}
use Rattle.std.specs.List.{AllByRecursion}
use Rattle.std.specs.FinMap.{entries, from_sorted, len, get, entries_sorted, entries-from_sorted, same_entries_map}
use Rattle.std.specs.FinMap.{empty_of_len}
use Rattle.std.proofs.lemmas.Bool.Decides.{nat_tests}
use Rattle.std.proofs.lemmas.List.{nil_from_length}
use Rattle.generators.specs.Gens.{Gens, operator_cmp}
use Rattle.generators.proofs.EntryLaws.{entries_are_set}
use Rattle.flat_records.specs.Bags.{Bag}
use Rattle.bank_parts.specs.declared.parts.GlobalZone.{GlobalZone}
use Rattle.bank_parts.specs.declared.parts.Zone.{Zone}
use Rattle.bank_parts.specs.declared.parts.ZoneOwner.{ZoneOwner}
use Rattle.bank_parts.specs.Bagged.{zone_bag, global_bag, bags_of, ends_in, without_last, last_amount, zone_in}
use Rattle.bank_parts.specs.Bagged.{no_global, owner_in, IsPlain, IsPlainOwner}
use Rattle.bank_parts.specs.Flat.{owners_in, RepresentOwners, AreRead}

-- ---- zones

same-op : (op : ℕ) → (op == op) ≡ true
same-op op = grind (arith, nat_tests)

is-op : (a op : ℕ) → (a == op) ≡ true → a ≡ op
is-op a op e = grind (arith, nat_tests, e)

ends-last : (op : ℕ) (es : List (ℕ × ℕ)) (amount : ℕ) → ends_in op (es ++ (op, amount) ∷ []) ≡ (op == op)
ends-last op [] amount = refl
ends-last op (e ∷ []) amount = refl
ends-last op (e ∷ (f ∷ es)) amount = ends-last op (f ∷ es) amount

pub without-last : (op : ℕ) (es : List (ℕ × ℕ)) (amount : ℕ) → without_last (es ++ (op, amount) ∷ []) ≡ es
without-last op [] amount = refl
without-last op (e ∷ []) amount = refl
without-last op (e ∷ (f ∷ es)) amount = ap (λ xs. e ∷ xs) (without-last op (f ∷ es) amount)

pub amount-last : (op : ℕ) (es : List (ℕ × ℕ)) (amount : ℕ) → last_amount (es ++ (op, amount) ∷ []) ≡ amount
amount-last op [] amount = refl
amount-last op (e ∷ []) amount = refl
amount-last op (e ∷ (f ∷ es)) amount = amount-last op (f ∷ es) amount

pub gens-back : (gens : Gens) → from_sorted (entries gens) ≡ gens
gens-back gens =
    same_entries_map (from_sorted (entries gens)) gens
    (entries-from_sorted operator_cmp (entries gens) (entries_sorted gens))

pub zone-back : (op : ℕ) (z : Zone) → zone_in (zone_bag op z) ≡ z
zone-back op z =
    let t = amount-last op (entries z.gens) z.target in
    let g = ap from_sorted (without-last op (entries z.gens) z.target) ∙ gens-back z.gens in
    λ i. record { target = t i; gens = g i; mods = z.mods }

zones-back : (op : ℕ) (zones : List Zone) → map zone_in (map (zone_bag op) zones) ≡ zones
zones-back op [] = refl
zones-back op (z ∷ zs) = λ i. zone-back op z i ∷ zones-back op zs i

-- ---- which bags end in a target

pub zone-ends : (op : ℕ) (z : Zone) → ends_in op (entries z.gens ++ (op, z.target) ∷ []) ≡ true
zone-ends op z = ends-last op (entries z.gens) z.target ∙ same-op op

-- if the last entry has the operator, some entry has it
last_is_entry : (op : ℕ) (es : List (ℕ × ℕ)) → ends_in op es ≡ true → (j : ℕ) × (w : ℕ) × (slice_get es j ≡ Some (op, w))
last_is_entry op [] h = cc
last_is_entry op (e ∷ []) h = let same = is-op e.0 op h in (0, e.1, λ i. Some (same i, e.1))
last_is_entry op (e ∷ (f ∷ es)) h = let s = last_is_entry op (f ∷ es) h in (suc s.0, s.1, s.2)

pub plain-ends : (op : ℕ) (gens : Gens) → get gens op ≡ None → ends_in op (entries gens) ≡ false
plain-ends op gens unset = elim (ends_in op (entries gens)) as (λ b. ends_in op (entries gens) ≡ b → b ≡ false) [
  | true ↦ λ h. let s =
      last_is_entry op (entries gens) h in let there = entries_are_set gens s.0 op s.1 s.2 in cc (there, unset)
  | false ↦ λ h. refl
] refl

-- ---- the last entry by its index

pub ends-at : (op n : ℕ) (es : List (ℕ × ℕ)) (e : ℕ × ℕ) → length es ≡ suc n → slice_get es n ≡ Some e
    → ends_in op es ≡ (e.0 == op)
ends-at op n [] e size there = cc
ends-at op zero (x ∷ []) e size there = let same : x ≡ e = cc in ap (λ (x : ℕ × ℕ). x.0 == op) same
ends-at op (suc n) (x ∷ []) e size there = absurd (omega arith)
ends-at op zero (x ∷ (y ∷ ys)) e size there = absurd (omega arith)
ends-at op (suc n) (x ∷ (y ∷ ys)) e size there = ends-at op n (y ∷ ys) e (omega arith) there

pub amount-at : (n : ℕ) (es : List (ℕ × ℕ)) (e : ℕ × ℕ) → length es ≡ suc n → slice_get es n ≡ Some e
    → last_amount es ≡ e.1
amount-at n [] e size there = cc
amount-at zero (x ∷ []) e size there = let same : x ≡ e = cc in ap (λ (x : ℕ × ℕ). x.1) same
amount-at (suc n) (x ∷ []) e size there = absurd (omega arith)
amount-at zero (x ∷ (y ∷ ys)) e size there = absurd (omega arith)
amount-at (suc n) (x ∷ (y ∷ ys)) e size there = amount-at n (y ∷ ys) e (omega arith) there

pub front-of : (n : ℕ) (es : List (ℕ × ℕ)) → length es ≡ suc n → without_last es ≡ take n es
front-of n [] size = absurd (omega arith)
front-of zero (x ∷ []) size = refl
front-of (suc n) (x ∷ []) size = absurd (omega arith)
front-of zero (x ∷ (y ∷ ys)) size = absurd (omega arith)
front-of (suc n) (x ∷ (y ∷ ys)) size = ap (λ zs. x ∷ zs) (front-of n (y ∷ ys) (omega arith))

pub ends-some : (op : ℕ) (es : List (ℕ × ℕ)) → ends_in op es ≡ true → 0 < length es
ends-some op [] e = cc
ends-some op (x ∷ xs) e = omega arith

-- ---- presets or instruments

none-back : (g : GlobalZone) → len g.gens + length g.mods ≡ 0 → no_global ≡ g
none-back g e =
    let gens : len g.gens ≡ 0 = omega arith in
    let mods : length g.mods ≡ 0 = omega arith in
    let h = sym (empty_of_len g.gens gens) in
    let m = sym (nil_from_length g.mods mods) in
    λ i. record { gens = h i; mods = m i }

module _ {H : Type 0} where
  own-zones : (op : ℕ) (head : H) (zones : List Zone)
      → owner_in op head (map (zone_bag op) zones) ≡ record { head = head; global = no_global; zones = zones }
  own-zones op head [] = refl
  own-zones op head (z ∷ zs) =
      rw (zone-ends op z) (λ i. record { head = head; global = no_global; zones = zones-back op (z ∷ zs) i })

  global-cases : (op : ℕ) (x : ZoneOwner H) (b : Bool) → (len x.global.gens + length x.global.mods == 0) ≡ b
      → IsPlain op x.global.gens
      → owner_in op x.head ((if b then [] else (global_bag x.global ∷ [])) ++ map (zone_bag op) x.zones) ≡ x
  global-cases op x true e p =
      own-zones op x.head x.zones
      ∙
      (let g =
      none-back x.global (is-op (len x.global.gens + length x.global.mods) 0 e) in λ i.
      record { head = x.head; global = g i; zones = x.zones })
  global-cases op x false e p =
      rw (plain-ends op x.global.gens p.unset)
      (λ i.
      record {
        head =
            x.head;
        global =
            record { gens = gens-back x.global.gens i; mods = x.global.mods };
        zones =
            zones-back op x.zones i;
      })

  pub owner-back : (op : ℕ) (x : ZoneOwner H) → IsPlainOwner op x → owner_in op x.head (bags_of op x) ≡ x
  owner-back op x p = global-cases op x (len x.global.gens + length x.global.mods == 0) refl p.global

  owners-back : (op : ℕ) (owners : List (ZoneOwner H)) → AllByRecursion (IsPlainOwner op) owners
      → owners_in op (map (λ (x : ZoneOwner H). x.head) owners) (map (bags_of op) owners) ≡ owners
  owners-back op [] p = refl
  owners-back op (x ∷ xs) p = λ i. owner-back op x p.0 i ∷ owners-back op xs p.1 i

  pub read : {op : ℕ} {heads : List H} {bags : List (List Bag)} {owners : List (ZoneOwner H)}
      → RepresentOwners op heads bags owners → owners_in op heads bags ≡ owners
  read {op} {heads} {bags} {owners} a = (λ i. owners_in op (a.heads i) (a.bags i)) ∙ owners-back op owners a.plain

  pub are_read : {op : ℕ} {heads : List H} {bags : List (List Bag)} {owners : List (ZoneOwner H)}
      → RepresentOwners op heads bags owners → AreRead op heads bags
  are_read {op} {heads} {bags} {owners} a = subst (RepresentOwners op heads bags) (sym (read a)) a

  pub held : {op : ℕ} {heads : List H} {bags : List (List Bag)} {owners : List (ZoneOwner H)}
      → RepresentOwners op heads bags (owners_in op heads bags) → owners_in op heads bags ≡ owners → RepresentOwners op heads bags owners
  held {op} {heads} {bags} {owners} a e = subst (RepresentOwners op heads bags) e a
