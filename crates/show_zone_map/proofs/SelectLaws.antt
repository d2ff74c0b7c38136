-- Notes select zones exactly where they have rectangles.
use Rattle.std.proofs.Common.{◌≡◌, ◌≢◌, ◌≤◌, ℕ, ◌&&◌, ◌||◌, nat_le, min, max, Bool, true, false, true≢false, cond}
use Rattle.std.proofs.Common.{List, [], length, Option, Some, None, slice_get, unwrap_or, refl, sym, ap, ◌∙◌, arith}
use Rattle.std.specs.Prelude.{is_some}
use Rattle.std.specs.List.{find, filter, list_any}
use Rattle.std.specs.Option.{option_map, option_map_or, option_and_then}
use Rattle.std.proofs.lemmas.Bool.{ne_eqb, eq-eqb}
use Rattle.std.proofs.lemmas.Bool.Decides.{nat_tests}
use Rattle.std.proofs.lemmas.Option.{slice_get_past}
use Rattle.script_notes.specs.Notes.{Numbers}
use Rattle.bank_parts.specs.declared.parts.Head.{Head}
use Rattle.bank_parts.specs.declared.parts.GlobalZone.{GlobalZone}
use Rattle.bank_parts.specs.declared.parts.Zone.{Zone}
use Rattle.bank_parts.specs.declared.parts.ZoneOwner.{ZoneOwner}
use Rattle.bank_parts.specs.declared.parts.Parts.{Parts}
use Rattle.bank_changes.specs.declared.members.Owner.TheVariants as owner
use Rattle.bank_changes.specs.Members.{target_of}
use Rattle.zone_select.specs.Ranges.{holds}
use Rattle.zone_select.specs.ZoneSettings.{ZoneSettings, zone_settings}
use Rattle.zone_select.specs.Select.{has_preset_numbers}
use Rattle.zone_select.specs.Pairs.{holds_at, selected_pair, pair_of_preset, pair_of_zone, pair_of_instrument, zone_held}
use Rattle.zone_select.specs.Remaining.{zones_in, owner_holds}
use Rattle.zone_select.proofs.PlayedLaws.{pairs_are_selected}
use Rattle.show_zone_map.specs.declared.rectangle.Area.{Area}
use Rattle.show_zone_map.specs.declared.rectangle.Rectangle.{Rectangle}
use Rattle.show_zone_map.specs.Rectangles.{area_of, everything, intersection, has_notes, root_key, rectangle_of, with_notes}
use Rattle.show_zone_map.specs.Rectangles.{rectangle_at, zone_numbers, rectangles_in, rectangles_of_zone, rectangles}
use Rattle.show_zone_map.specs.Selected.{is_in, covers, is_of_zone, is_of_pair, PairsSelected, PairsOnce, ZonesHold}
use Rattle.show_zone_map.specs.Selected.{ZonesOnce}
use Rattle.show_zone_map.proofs.Kept.{as_list, options_flat, kept, none_kept, any_kept, at_most_one}

-- ---- ranges

-- a number is in the intersection of two ranges exactly if it is in both
in_common : (a b c d x : ℕ)
    → (nat_le (max a c) x && nat_le x (min b d)) ≡ ((nat_le a x && nat_le x b) && (nat_le c x && nat_le x d))
in_common a b c d x = grind (arith, nat_tests)

in_order : (a b x : ℕ) → (nat_le a x && nat_le x b) ≡ true → nat_le a b ≡ true
in_order a b x h = grind (arith, nat_tests)

-- ---- tests

-- a conjunction may include the conditions of its parts
conditions : (s t p q : Bool) → (p ≡ true → s ≡ true) → (q ≡ true → t ≡ true) → ((s && t) && (p && q)) ≡ (p && q)
conditions true true p q h k = refl
conditions false t false q h k = refl
conditions false t true q h k = absurd (true≢false (sym (h refl)))
conditions true false false q h k = refl
conditions true false true false h k = refl
conditions true false true true h k = absurd (true≢false (sym (k refl)))

crossed : (p q r s : Bool) → ((p && r) && (q && s)) ≡ ((p && q) && (r && s))
crossed false q r s = refl
crossed true true r s = refl
crossed true false true s = refl
crossed true false false s = refl

cond_same : {X : Type 0} (xs : List X) (t : Bool) → xs ≡ cond t xs xs
cond_same xs true = refl
cond_same xs false = refl

-- ---- a rectangle

abbrev in_area : Numbers → Area → Bool
in_area n area = is_in area.keys n.key && is_in area.velocities n.velocity

-- the intersection of two areas covers a note exactly if both do
intersection_covers : (n : Numbers) (x y : Area) → (has_notes (intersection x y) && in_area n (intersection x y)) ≡ (in_area n x && in_area n y)
intersection_covers n x y =
    conditions (nat_le (intersection x y).keys.low (intersection x y).keys.high)
    (nat_le (intersection x y).velocities.low (intersection x y).velocities.high) (is_in (intersection x y).keys n.key)
    (is_in (intersection x y).velocities n.velocity)
    (in_order (intersection x y).keys.low (intersection x y).keys.high n.key)
    (in_order (intersection x y).velocities.low (intersection x y).velocities.high n.velocity)
    ∙ ap (λ t. t && is_in (intersection x y).velocities n.velocity)
    (in_common x.keys.low x.keys.high y.keys.low y.keys.high n.key)
    ∙ ap (λ t. (is_in x.keys n.key && is_in y.keys n.key) && t)
    (in_common x.velocities.low x.velocities.high y.velocities.low y.velocities.high n.velocity)
    ∙ crossed (is_in x.keys n.key) (is_in x.velocities n.velocity) (is_in y.keys n.key) (is_in y.velocities n.velocity)

-- a rectangle that exists if it contains a note
if_notes : (n : Numbers) (r : Rectangle) (t : Bool)
    → list_any (covers n) (as_list (cond t (Some r) None)) ≡ (t && in_area n r.area)
if_notes n r true = elim (in_area n r.area) as (λ c. (c || false) ≡ c) [ true ↦ refl | false ↦ refl ]
if_notes n r false = refl

both_false : (t : Bool) → false ≡ (t && false)
both_false true = refl
both_false false = refl

module _ (b : Parts) (n : Numbers) (outer : Option ℕ) (area : Area) (i l : ℕ) where
  -- it covers a note exactly if the area does and its zone contains the note
  pub covered : list_any (covers n) (as_list (rectangle_at b outer area i l))
      ≡ (in_area n area && owner_holds b n (owner.Inst i) l)
  unfolding holds
  covered = from (slice_get b.instruments i) refl
    where
      zone : (x : ZoneOwner (List ℕ)) (z : Option Zone) → slice_get b.instruments i ≡ Some x → slice_get x.zones l ≡ z
          → list_any (covers n) (as_list (rectangle_at b outer area i l))
          ≡ (in_area n area && option_map_or (holds n x.global) z false)
      zone x None e f = rw (e, f) (both_false (in_area n area))
      zone x (Some z) e f =
          let there : Area = area_of b (owner.Inst i) l in
          let r = rectangle_of b outer area i l z.target in
          let target : target_of b (owner.Inst i) l ≡ Some z.target = rw (e, f) refl in
          let held : in_area n there ≡ holds n x.global z = rw (e, f) refl in
          ap
          (λ (t : Option ℕ).
          list_any (covers n)
          (as_list (option_and_then (λ (s : ℕ). with_notes (rectangle_of b outer area i l s)) t)))
          target
          ∙ if_notes n r (has_notes (intersection area there))
          ∙ intersection_covers n area there
          ∙ ap (λ t. in_area n area && t) held

      from : (o : Option (ZoneOwner (List ℕ))) → slice_get b.instruments i ≡ o
          → list_any (covers n) (as_list (rectangle_at b outer area i l))
          ≡ (in_area n area && option_map_or (λ (x : ZoneOwner (List ℕ)). holds_at n x.global x.zones l) o false)
      from None e = rw e (both_false (in_area n area))
      from (Some x) e = zone x (slice_get x.zones l) e refl

module _ (b : Parts) (outer : Option ℕ) (area : Area) (i l : ℕ) where
  -- a zone that doesn't exist has none
  pub not_there : zones_in b (owner.Inst i) ≤ l → rectangle_at b outer area i l ≡ None
  not_there = from (slice_get b.instruments i) refl
    where
      from : (o : Option (ZoneOwner (List ℕ))) → slice_get b.instruments i ≡ o
          → unwrap_or (option_map (λ (x : ZoneOwner (List ℕ)). length x.zones) o) 0 ≤ l
          → rectangle_at b outer area i l ≡ None
      from None e h = rw e refl
      from (Some x) e h = let f = slice_get_past x.zones l h in rw (e, f) refl

  -- filtering it by a test of the zones' numbers
  module _ (test : Rectangle → Bool) (t : Bool)
      (same : (s root : ℕ) (a : Area)
      → test
      (let r : Rectangle =
      record { preset_zone = outer; zone = l; sample = s; area = a; root = root } in r)
      ≡ t)
    where
      abbrev of_target : Option ℕ → Option Rectangle
      of_target target = option_and_then (λ (s : ℕ). with_notes (rectangle_of b outer area i l s)) target

      tested : (r : Rectangle) (c : Bool) → test r ≡ t
          → filter test (as_list (cond c (Some r) None)) ≡ cond t (as_list (cond c (Some r) None)) []
      tested r true e = rw e refl
      tested r false e = cond_same [] t

      pub kept_at : filter test (as_list (rectangle_at b outer area i l))
          ≡ cond t (as_list (rectangle_at b outer area i l)) []
      kept_at =
          elim (target_of b (owner.Inst i) l) as
          (λ (o : Option ℕ). filter test (as_list (of_target o)) ≡ cond t (as_list (of_target o)) []) [
            | None ↦ cond_same [] t
            | Some s ↦ tested (rectangle_of b outer area i l s) (has_notes (intersection area (area_of b (owner.Inst i) l)))
                (same s (root_key b i l s) (intersection area (area_of b (owner.Inst i) l)))
          ]

-- ---- an instrument, alone or through a preset's zone

module _ (b : Parts) (outer : Option ℕ) (area : Area) (i l : ℕ) (test : Rectangle → Bool)
    (own : (s root : ℕ) (a : Area)
    → test (let r : Rectangle = record { preset_zone = outer; zone = l; sample = s; area = a; root = root } in r)
    ≡ true)
    (other : (m s root : ℕ) (a : Area) → m ≢ l
    → test
    (let r : Rectangle =
    record { preset_zone = outer; zone = m; sample = s; area = a; root = root } in r)
    ≡ false)
  where
    -- the rectangles of one zone
    pub of_zone : filter test (rectangles_in b outer area i) ≡ as_list (rectangle_at b outer area i l)
    of_zone =
        ap (filter test) (options_flat (rectangle_at b outer area i) (zone_numbers b (owner.Inst i)))
        ∙ kept test (λ m. as_list (rectangle_at b outer area i m)) l
        (λ m ne. kept_at b outer area i m test false (λ s root a. other m s root a ne))
        (zones_in b (owner.Inst i))
        (λ past. ap (λ o. filter test (as_list o)) (not_there b outer area i l past))
        ∙ kept_at b outer area i l test true own

-- none if the preset's zone is another one
pub of_other : (b : Parts) (outer : Option ℕ) (area : Area) (i : ℕ) (test : Rectangle → Bool)
    →
    ((m s root : ℕ) (a : Area)
    → test (let r : Rectangle = record { preset_zone = outer; zone = m; sample = s; area = a; root = root } in r)
    ≡ false)
    → filter test (rectangles_in b outer area i) ≡ []
of_other b outer area i test none =
    ap (filter test) (options_flat (rectangle_at b outer area i) (zone_numbers b (owner.Inst i)))
    ∙ none_kept test (rectangle_at b outer area i)
    (λ m. kept_at b outer area i m test false (λ s root a. none m s root a)) (zone_numbers b (owner.Inst i))

-- ---- the laws for instruments

zone_kept : (b : Parts) (i l : ℕ)
    → filter (is_of_zone l) (rectangles b (owner.Inst i)) ≡ as_list (rectangle_at b None everything i l)
unfolding rectangles
zone_kept b i l =
    of_zone b None everything i l (is_of_zone l) (λ s root a. eq-eqb l l refl) (λ m s root a ne. ne_eqb m l ne)

pub zones_once : ZonesOnce
zones_once b i l =
    let e = ap length (zone_kept b i l) in
    let h = at_most_one (rectangle_at b None everything i l) in omega (arith, e, h)

all_in : (n : Numbers) → n.key ≤ 127 → n.velocity ≤ 127 → in_area n everything ≡ true
all_in n h k = grind (arith, nat_tests)

pub zones_hold : ZonesHold
zones_hold b n i l h k =
    sym (any_kept (is_of_zone l) (covers n) (rectangles b (owner.Inst i))
    ∙ ap (list_any (covers n)) (zone_kept b i l)
    ∙ covered b n None everything i l
    ∙ ap (λ t. t && owner_holds b n (owner.Inst i) l) (all_in n h k))

-- ---- the laws for presets

-- the rectangle of a pair
abbrev pair_list : Parts → ℕ → ℕ → ℕ → List Rectangle
pair_list b p k l =
    option_map_or (λ (i : ℕ). as_list (rectangle_at b (Some k) (area_of b (owner.Preset p) k) i l))
    (target_of b (owner.Preset p) k) []

module _ (b : Parts) (p k l : ℕ) where
  of_pair : filter (is_of_pair k l) (rectangles_of_zone b p k) ≡ pair_list b p k l
  of_pair =
      elim (target_of b (owner.Preset p) k) as
      (λ (o : Option ℕ).
      filter (is_of_pair k l)
      (option_map_or (λ (i : ℕ). rectangles_in b (Some k) (area_of b (owner.Preset p) k) i) o [])
      ≡ option_map_or (λ (i : ℕ). as_list (rectangle_at b (Some k) (area_of b (owner.Preset p) k) i l)) o
      []) [
        | None ↦ refl
        | Some i ↦ of_zone b (Some k) (area_of b (owner.Preset p) k) i l (is_of_pair k l)
            (λ s root a. let e = eq-eqb k k refl in let f = eq-eqb l l refl in rw (e, f) refl)
            (λ m s root a ne. let e = eq-eqb k k refl in let f = ne_eqb m l ne in rw (e, f) refl)
      ]

  of_others : (j : ℕ) → j ≢ k → filter (is_of_pair k l) (rectangles_of_zone b p j) ≡ []
  of_others j ne =
      elim (target_of b (owner.Preset p) j) as
      (λ (o : Option ℕ).
      filter (is_of_pair k l)
      (option_map_or (λ (i : ℕ). rectangles_in b (Some j) (area_of b (owner.Preset p) j) i) o [])
      ≡ []) [
        | None ↦ refl
        | Some i ↦ of_other b (Some j) (area_of b (owner.Preset p) j) i (is_of_pair k l)
            (λ m s root a. let e = ne_eqb j k ne in rw e refl)
      ]

  past_zones : zones_in b (owner.Preset p) ≤ k → target_of b (owner.Preset p) k ≡ None
  past_zones = from (slice_get b.presets p) refl
    where
      from : (o : Option (ZoneOwner Head)) → slice_get b.presets p ≡ o
          → unwrap_or (option_map (λ (x : ZoneOwner Head). length x.zones) o) 0 ≤ k
          → target_of b (owner.Preset p) k ≡ None
      from None e h = rw e refl
      from (Some x) e h = let f = slice_get_past x.zones k h in rw (e, f) refl

  pair_kept : filter (is_of_pair k l) (rectangles b (owner.Preset p)) ≡ pair_list b p k l
  unfolding rectangles
  pair_kept =
      kept (is_of_pair k l) (rectangles_of_zone b p) k of_others (zones_in b (owner.Preset p))
      (λ past.
      ap
      (λ (o : Option ℕ).
      filter (is_of_pair k l)
      (option_map_or (λ (i : ℕ). rectangles_in b (Some k) (area_of b (owner.Preset p) k) i) o []))
      (past_zones past))
      ∙ of_pair

  -- a pair has at most one
  few : length (pair_list b p k l) ≤ 1
  few =
      elim (target_of b (owner.Preset p) k) as
      (λ (o : Option ℕ).
      length
      (option_map_or (λ (i : ℕ). as_list (rectangle_at b (Some k) (area_of b (owner.Preset p) k) i l)) o
      [])
      ≤ 1) [
        | None ↦ omega arith
        | Some i ↦ at_most_one (rectangle_at b (Some k) (area_of b (owner.Preset p) k) i l)
      ]

pub pairs_once : PairsOnce
pairs_once b p k l = let e = ap length (pair_kept b p k l) in let h = few b p k l in omega (arith, e, h)

mapped : {X Y : Type 0} (f : X → Y) (o : Option X) → is_some (option_map f o) ≡ is_some o
mapped f None = refl
mapped f (Some x) = refl

tested_then : {X Y : Type 0} (f : X → Option Y) (x : X) (t : Bool)
    → is_some (option_and_then f (cond t (Some x) None)) ≡ (t && is_some (f x))
tested_then f x true = refl
tested_then f x false = refl

module _ (b : Parts) (n : Numbers) where
  held_is : (global : GlobalZone) (zones : List Zone) (k : ℕ)
      → is_some (zone_held n global zones k) ≡ holds_at n global zones k
  held_is global zones k =
      elim (slice_get zones k) as
      (λ (o : Option Zone).
      is_some (option_and_then (λ (z : Zone). cond (holds n global z) (Some z) None) o)
      ≡ option_map_or (holds n global) o false) [
        | None ↦ refl
        | Some z ↦ elim (holds n global z) as (λ t. is_some (cond t (Some z) None) ≡ t) [ true ↦ refl | false ↦ refl ]
      ]

  inner_is : (u : ZoneSettings) (l : ℕ) (i : ZoneOwner (List ℕ))
      → is_some (pair_of_instrument n u l i) ≡ holds_at n i.global i.zones l
  inner_is u l i = mapped _ (zone_held n i.global i.zones l) ∙ held_is i.global i.zones l

  -- the zone of the instrument is selected exactly if it exists and contains the note
  zone_is : (global : GlobalZone) (l : ℕ) (z : Zone)
      → is_some (pair_of_zone b n global l z) ≡ owner_holds b n (owner.Inst z.target) l
  zone_is global l z =
      elim (slice_get b.instruments z.target) as
      (λ (o : Option (ZoneOwner (List ℕ))).
      is_some (option_and_then (pair_of_instrument n (zone_settings global z) l) o)
      ≡ option_map_or (λ (i : ZoneOwner (List ℕ)). holds_at n i.global i.zones l) o false) [
        | None ↦ refl
        | Some i ↦ inner_is (zone_settings global z) l i
      ]

  module _ (p k l : ℕ) where
    -- a pair of a preset is selected exactly if its rectangle covers the note
    preset_is : (x : ZoneOwner Head) → slice_get b.presets p ≡ Some x
        → list_any (covers n) (pair_list b p k l) ≡ is_some (pair_of_preset b n (k, l) x)
    unfolding holds
    preset_is x e = from (slice_get x.zones k) refl
      where
        from : (o : Option Zone) → slice_get x.zones k ≡ o
            → list_any (covers n) (pair_list b p k l)
            ≡ is_some
            (option_and_then (pair_of_zone b n x.global l)
            (option_and_then (λ (z : Zone). cond (holds n x.global z) (Some z) None) o))
        from None f = rw (e, f) refl
        from (Some z) f =
            let target : target_of b (owner.Preset p) k ≡ Some z.target = rw (e, f) refl in
            let held : in_area n (area_of b (owner.Preset p) k) ≡ holds n x.global z = rw (e, f) refl in
            ap
            (λ (o : Option ℕ).
            list_any (covers n)
            (option_map_or
            (λ (i : ℕ). as_list (rectangle_at b (Some k) (area_of b (owner.Preset p) k) i l)) o []))
            target
            ∙ covered b n (Some k) (area_of b (owner.Preset p) k) z.target l
            ∙ ap (λ t. t && owner_holds b n (owner.Inst z.target) l) held
            ∙ ap (λ t. holds n x.global z && t) (sym (zone_is x.global l z))
            ∙ sym (tested_then (pair_of_zone b n x.global l) z (holds n x.global z))

    selection_is : find (has_preset_numbers n) b.presets ≡ slice_get b.presets p
        → list_any (covers n) (pair_list b p k l) ≡ is_some (selected_pair b n (k, l))
    unfolding selected_pair
    selection_is first =
        from (slice_get b.presets p) refl
        ∙ ap (λ (o : Option (ZoneOwner Head)). is_some (option_and_then (pair_of_preset b n (k, l)) o))
        (sym first)
      where
        from : (o : Option (ZoneOwner Head)) → slice_get b.presets p ≡ o
            → list_any (covers n) (pair_list b p k l)
            ≡ is_some (option_and_then (pair_of_preset b n (k, l)) (slice_get b.presets p))
        from None e = rw e refl
        from (Some x) e =
            preset_is x e
            ∙ ap (λ (o : Option (ZoneOwner Head)). is_some (option_and_then (pair_of_preset b n (k, l)) o))
            (sym e)

pub pairs_selected : PairsSelected
pairs_selected b n p k l first =
    let same : list_any (λ r. is_of_pair k l r && covers n r) (rectangles b (owner.Preset p))
    ≡ is_some (selected_pair b n (k, l)) =
    any_kept (is_of_pair k l) (covers n) (rectangles b (owner.Preset p))
    ∙ ap (list_any (covers n)) (pair_kept b p k l) ∙ selection_is b n p k l first in
    let is_selected = pairs_are_selected b n (k, l) in
    (λ c. same ∙ is_selected.0 c, λ t. is_selected.1 (sym same ∙ t))
