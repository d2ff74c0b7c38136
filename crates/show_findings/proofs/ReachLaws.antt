-- Zones that make rectangles.
use Rattle.std.proofs.Common.{◌≡◌, ◌<◌, ℕ, suc, ◌&&◌, ◌||◌, List, [], ◌∷◌, length, refl, sym, ap}
use Rattle.std.proofs.Common.{◌∙◌, arith, Bool, true, false, not, nat_lt, cond, Option, Some, None, slice_get, unwrap_or}
use Rattle.std.specs.Prelude.{◌==◌, is_some}
use Rattle.std.specs.List.{list_any, flat_map, filter_map, cons_option}
use Rattle.std.specs.Option.{option_map, option_map_or, option_and_then}
use Rattle.std.proofs.lemmas.Bool.Decides.{nat_tests}
use Rattle.std.proofs.lemmas.List.Folds.{list_any-append}
use Rattle.base_numbered_lists.proofs.Lists.{slice_get-found}
use Rattle.bank_parts.specs.declared.parts.ZoneOwner.{ZoneOwner}
use Rattle.bank_parts.specs.declared.parts.Parts.{Parts}
use Rattle.bank_changes.specs.declared.members.Owner.{Owner}
use Rattle.bank_changes.specs.declared.members.Owner.TheVariants as owner
use Rattle.bank_changes.specs.Members.{target_of}
use Rattle.zone_select.specs.Remaining.{zones_in}
use Rattle.show_zone_map.specs.declared.rectangle.Area.{Area}
use Rattle.show_zone_map.specs.Rectangles.{area_of, intersection, has_notes, rectangle_of, with_notes}
use Rattle.show_zone_map.specs.Rectangles.{rectangle_at, zone_numbers, rectangles_in, rectangles_of_zone}
use Rattle.show_findings.specs.declared.zones.Use.{Use}
use Rattle.show_findings.specs.Numbers.{preset_owners}
use Rattle.show_findings.specs.PresetZones.{use_of, use_at, uses_in, AreSorted}
use Rattle.show_findings.specs.Zones.{is_target_of, any_preset_zone, is_instrument_used, is_reached}

-- ---- tests of lists

any_congr : {X : Type 0} (p q : X → Bool) → ((x : X) → p x ≡ q x) → (xs : List X) → list_any p xs ≡ list_any q xs
any_congr p q e [] = refl
any_congr p q e (x ∷ xs) = ap (λ t. t || list_any p xs) (e x) ∙ ap (λ t. q x || t) (any_congr p q e xs)

any_flat : {X Y : Type 0} (p : X → Bool) (g : Y → List X) (ys : List Y)
    → list_any p (flat_map g ys) ≡ list_any (λ y. list_any p (g y)) ys
any_flat p g [] = refl
any_flat p g (y ∷ ys) =
    list_any-append p (g y) (flat_map g ys) ∙ ap (λ t. list_any p (g y) || t) (any_flat p g ys)

any_option : {X : Type 0} (p : X → Bool) (o : Option X) (xs : List X)
    → list_any p (cons_option o xs) ≡ (option_map_or p o false || list_any p xs)
any_option p None xs = refl
any_option p (Some x) xs = refl

any_options : {X Y : Type 0} (p : X → Bool) (g : Y → Option X) (ys : List Y)
    → list_any p (filter_map g ys) ≡ list_any (λ y. option_map_or p (g y) false) ys
any_options p g [] = refl
any_options p g (y ∷ ys) =
    any_option p (g y) (filter_map g ys) ∙ ap (λ t. option_map_or p (g y) false || t) (any_options p g ys)

positive : (n : ℕ) → true ≡ nat_lt 0 (suc n)
positive n = grind (arith, nat_tests)

-- a list of options has a member
some_options : {X : Type 0} (g : ℕ → Option X) (ks : List ℕ)
    → list_any (λ k. is_some (g k)) ks ≡ nat_lt 0 (length (filter_map g ks))
some_options g [] = refl
some_options {X} g (k ∷ ks) =
    elim (g k) as
    (λ (o : Option X). (is_some o || list_any (λ j. is_some (g j)) ks) ≡ nat_lt 0 (length (cons_option o (filter_map g ks)))) [
      | None ↦ some_options g ks
      | Some x ↦ positive (length (filter_map g ks))
    ]

pub some_member : {X : Type 0} (xs : List X) → 0 < length xs → list_any (λ (x : X). true) xs ≡ true
some_member [] h = absurd (omega (arith, h))
some_member (x ∷ xs) h = refl

-- ---- rectangles

-- a zone that there is has a target
target_found : (b : Parts) (i l : ℕ) → l < zones_in b (owner.Inst i)
    → (s : ℕ) × (target_of b (owner.Inst i) l ≡ Some s)
target_found b i l = from (slice_get b.instruments i) refl
  where
    from : (o : Option (ZoneOwner (List ℕ))) → slice_get b.instruments i ≡ o
        → l < unwrap_or (option_map (λ (x : ZoneOwner (List ℕ)). length x.zones) o) 0
        → (s : ℕ) × (target_of b (owner.Inst i) l ≡ Some s)
    from None e lt = absurd (omega (arith, lt))
    from (Some x) e lt = let (z, is) = slice_get-found x.zones l lt in (z.target, rw (e, is) refl)

tested : {X : Type 0} (x : X) (t : Bool) → is_some (cond t (Some x) None) ≡ t
tested x true = refl
tested x false = refl

pub makes : (b : Parts) (outer : Option ℕ) (area : Area) (i l : ℕ) → l < zones_in b (owner.Inst i)
    → has_notes (intersection area (area_of b (owner.Inst i) l)) ≡ is_some (rectangle_at b outer area i l)
makes b outer area i l lt =
    let (s, is) = target_found b i l lt in
    sym
    (ap (λ (o : Option ℕ). is_some (option_and_then (λ (t : ℕ). with_notes (rectangle_of b outer area i l t)) o)) is
    ∙ tested (rectangle_of b outer area i l s) (has_notes (intersection area (area_of b (owner.Inst i) l))))

-- of a preset's zone with a target
pub of_zone : (b : Parts) (p k : ℕ) (t : ℕ) → target_of b (owner.Preset p) k ≡ Some t
    → list_any (λ l. is_some (rectangle_at b (Some k) (area_of b (owner.Preset p) k) t l)) (zone_numbers b (owner.Inst t))
    ≡ nat_lt 0 (length (rectangles_of_zone b p k))
of_zone b p k t is =
    some_options (rectangle_at b (Some k) (area_of b (owner.Preset p) k) t) (zone_numbers b (owner.Inst t))
    ∙ sym
    (ap
    (λ (o : Option ℕ).
    nat_lt 0 (length (option_map_or (λ (i : ℕ). rectangles_in b (Some k) (area_of b (owner.Preset p) k) i) o [])))
    is)

pub of_none : (b : Parts) (p k : ℕ) → target_of b (owner.Preset p) k ≡ None
    → false ≡ nat_lt 0 (length (rectangles_of_zone b p k))
of_none b p k is =
    sym
    (ap
    (λ (o : Option ℕ).
    nat_lt 0 (length (option_map_or (λ (i : ℕ). rectangles_in b (Some k) (area_of b (owner.Preset p) k) i) o [])))
    is)

-- ---- the zones of presets

any_uses : (b : Parts) (p : Use → Bool)
    → list_any p (uses_in b) ≡ any_preset_zone b (λ o k. option_map_or p (use_at b o k) false)
any_uses b p =
    any_flat p (λ (o : Owner). filter_map (use_at b o) (zone_numbers b o)) (preset_owners b)
    ∙ any_congr (λ (o : Owner). list_any p (filter_map (use_at b o) (zone_numbers b o)))
    (λ (o : Owner). list_any (λ k. option_map_or p (use_at b o k) false) (zone_numbers b o))
    (λ o. any_options p (use_at b o) (zone_numbers b o)) (preset_owners b)

same_zones : (b : Parts) (f g : Owner → ℕ → Bool) → ((o : Owner) (k : ℕ) → f o k ≡ g o k)
    → any_preset_zone b f ≡ any_preset_zone b g
same_zones b f g e =
    any_congr (λ (o : Owner). list_any (f o) (zone_numbers b o)) (λ (o : Owner). list_any (g o) (zone_numbers b o))
    (λ o. any_congr (f o) (g o) (e o) (zone_numbers b o)) (preset_owners b)

module _ (b : Parts) (i : ℕ) where
  with_true : (t : Bool) → (t && true) ≡ t
  with_true true = refl
  with_true false = refl

  used_at : (o : Owner) (k : ℕ)
      → option_map_or (λ (u : Use). (u.target == i) && true) (use_at b o k) false ≡ is_target_of b o k i
  used_at o k =
      elim (target_of b o k) as
      (λ (t : Option ℕ).
      option_map_or (λ (u : Use). (u.target == i) && true) (option_map (λ (s : ℕ). use_of s b o k) t) false
      ≡ option_map_or (λ (s : ℕ). s == i) t false) [
        | None ↦ refl
        | Some s ↦ with_true (s == i)
      ]

  used : list_any (λ (u : Use). (u.target == i) && true) (uses_in b) ≡ is_instrument_used b i
  used =
      any_uses b (λ (u : Use). (u.target == i) && true)
      ∙ same_zones b (λ o k. option_map_or (λ (u : Use). (u.target == i) && true) (use_at b o k) false)
      (λ o k. is_target_of b o k i) used_at

  module _ (l : ℕ) (lt : l < zones_in b (owner.Inst i)) where
    reached_at : (o : Owner) (k : ℕ)
        → option_map_or
        (λ (u : Use). (u.target == i) && has_notes (intersection u.area (area_of b (owner.Inst i) l)))
        (use_at b o k) false
        ≡ (is_target_of b o k i && is_some (rectangle_at b (Some k) (area_of b o k) i l))
    reached_at o k =
        elim (target_of b o k) as
        (λ (t : Option ℕ).
        option_map_or (λ (u : Use). (u.target == i) && has_notes (intersection u.area (area_of b (owner.Inst i) l)))
        (option_map (λ (s : ℕ). use_of s b o k) t) false
        ≡ (option_map_or (λ (s : ℕ). s == i) t false && is_some (rectangle_at b (Some k) (area_of b o k) i l))) [
          | None ↦ refl
          | Some s ↦ ap (λ c. (s == i) && c) (makes b (Some k) (area_of b o k) i l lt)
        ]

    reached : list_any
        (λ (u : Use). (u.target == i) && has_notes (intersection u.area (area_of b (owner.Inst i) l))) (uses_in b)
        ≡ is_reached b i l
    reached =
        any_uses b (λ (u : Use). (u.target == i) && has_notes (intersection u.area (area_of b (owner.Inst i) l)))
        ∙ same_zones b
        (λ o k.
        option_map_or (λ (u : Use). (u.target == i) && has_notes (intersection u.area (area_of b (owner.Inst i) l)))
        (use_at b o k) false)
        (λ o k. is_target_of b o k i && is_some (rectangle_at b (Some k) (area_of b o k) i l)) reached_at

    -- the group of an instrument among sorted zones of presets
    pub reached_by : (uses group : List Use) → AreSorted b uses
        → ((p : Use → Bool) → list_any p group ≡ list_any (λ u. (u.target == i) && p u) uses)
        → (not (list_any (λ (u : Use). true) group)
        || list_any (λ (u : Use). has_notes (intersection u.area (area_of b (owner.Inst i) l))) group)
        ≡ (not (is_instrument_used b i) || is_reached b i l)
    reached_by uses group sorted grouped =
        ap
        (λ t.
        not t || list_any (λ (u : Use). has_notes (intersection u.area (area_of b (owner.Inst i) l))) group)
        (grouped (λ (u : Use). true) ∙ sorted.same (λ (u : Use). (u.target == i) && true) ∙ used)
        ∙ ap (λ t. not (is_instrument_used b i) || t)
        (grouped (λ (u : Use). has_notes (intersection u.area (area_of b (owner.Inst i) l)))
        ∙ sorted.same (λ (u : Use). (u.target == i) && has_notes (intersection u.area (area_of b (owner.Inst i) l)))
        ∙ reached)
