-- The targets of zones, collected one by one.
use Rattle.std.proofs.Common.{◌≡◌, ◌≤◌, ◌<◌, ◌+◌, ◌++◌, ℕ, suc, List, [], ◌∷◌, length, map, drop, get_or, slice_get}
use Rattle.std.proofs.Common.{Some, refl, sym, ap, ◌∙◌, arith, drop-cons, append_assoc}
use Rattle.std.specs.Prelude.{IfSome}
use Rattle.std.proofs.lemmas.List.{drop_all, at_drop_more, append-nil}
use Rattle.std.proofs.lemmas.Option.{get_or_from_slice_get}
use Rattle.base_numbered_lists.proofs.Lists.{slice_get-found}
use Rattle.bank_parts.specs.declared.parts.Zone.{Zone}
use Rattle.bank_parts.specs.declared.parts.ZoneOwner.{ZoneOwner}
use Rattle.bank_parts.specs.Owners.{zone_count_at, target_at}
use Rattle.show_listing.specs.Uses.{targets_in}

abbrev own_targets : List Zone → List ℕ
own_targets zones = map (λ (z : Zone). z.target) zones

module _ {H : Type 0} (xs : List (ZoneOwner H)) where
  -- ---- of one member: the targets of the remaining zones are still to be collected

  abbrev pub Gathers : ℕ → List ℕ → List ℕ → ℕ → Type 0
  Gathers i before found k =
      IfSome (slice_get xs i) (λ x. before ++ own_targets x.zones ≡ found ++ own_targets (drop k x.zones))

  pub gathers_start : (i : ℕ) (before : List ℕ) → i < length xs → Gathers i before before 0
  gathers_start i before lt = let (x, is) = slice_get-found xs i lt in rw is refl

  pub gathers_more : (i k count t : ℕ) (before found more : List ℕ) → i < length xs → zone_count_at xs i ≡ Some count
      → k < count → target_at xs i k ≡ Some t → more ≡ found ++ t ∷ [] → Gathers i before found k
      → Gathers i before more (k + 1)
  gathers_more i k count t before found more lt n less to next h =
      let (x, is) = slice_get-found xs i lt in
      let size : length x.zones ≡ count = (let p = rw is at n in cc p) in
      let (z, there) = slice_get-found x.zones k (omega (arith, size, less)) in
      let target : z.target ≡ t = (let p = rw (is, there) at to in cc p) in
      let ahead : own_targets (drop k x.zones) ≡ t ∷ own_targets (drop (k + 1) x.zones) =
      drop_next x.zones k z t (omega (arith, size, less)) (get_or_from_slice_get x.zones k z z there) target in
      rw is
      ((rw is at h) ∙ ap (λ (ts : List ℕ). found ++ ts) ahead
      ∙ sym (append_assoc found (t ∷ []) (own_targets (drop (k + 1) x.zones)))
      ∙ ap (λ (ts : List ℕ). ts ++ own_targets (drop (k + 1) x.zones)) (sym next))
    where
      drop_next : (zones : List Zone) (k : ℕ) (z : Zone) (t : ℕ) → k < length zones → get_or zones k z ≡ z
          → z.target ≡ t → own_targets (drop k zones) ≡ t ∷ own_targets (drop (k + 1) zones)
      drop_next zones k z t less e to =
          ap own_targets (drop-cons zones k z less)
          ∙ ap (λ (y : Zone). y.target ∷ own_targets (drop (suc k) zones)) e
          ∙ (let next : k + 1 ≡ suc k = omega arith in rw (next, to) refl)

  pub gathers_all : (i k count : ℕ) (before found : List ℕ) → i < length xs → zone_count_at xs i ≡ Some count
      → count ≤ k → Gathers i before found k → IfSome (slice_get xs i) (λ x. found ≡ before ++ own_targets x.zones)
  gathers_all i k count before found lt n over h =
      let (x, is) = slice_get-found xs i lt in
      let size : length x.zones ≡ count = (let p = rw is at n in cc p) in
      let none : own_targets (drop k x.zones) ≡ [] = ap own_targets (drop_all k x.zones (omega (arith, size, over))) in
      rw is (sym ((rw is at h) ∙ ap (λ (ts : List ℕ). found ++ ts) none ∙ append-nil found))

  -- ---- of all members

  abbrev pub GathersAll : List ℕ → ℕ → Type 0
  GathersAll found i = targets_in xs ≡ found ++ targets_in (drop i xs)

  pub all_more : (found more : List ℕ) (i : ℕ) → i < length xs → GathersAll found i
      → IfSome (slice_get xs i) (λ x. more ≡ found ++ own_targets x.zones) → GathersAll more (i + 1)
  all_more found more i lt h next =
      let (x, is) = slice_get-found xs i lt in
      let ahead : targets_in (drop i xs) ≡ own_targets x.zones ++ targets_in (drop (i + 1) xs) =
      at_drop_more (λ ys. targets_in ys) xs i x lt
      ∙ ap (λ (y : ZoneOwner H). own_targets y.zones ++ targets_in (drop (i + 1) xs))
      (get_or_from_slice_get xs i x x is) in
      h ∙ ap (λ (ts : List ℕ). found ++ ts) ahead
      ∙ sym (append_assoc found (own_targets x.zones) (targets_in (drop (i + 1) xs)))
      ∙ ap (λ (ts : List ℕ). ts ++ targets_in (drop (i + 1) xs)) (sym (rw is at next))

  pub all_gathered : (found : List ℕ) (i : ℕ) → length xs ≤ i → GathersAll found i → found ≡ targets_in xs
  all_gathered found i over h = sym (h ∙ ap (λ ys. found ++ targets_in ys) (drop_all i xs over) ∙ append-nil found)
