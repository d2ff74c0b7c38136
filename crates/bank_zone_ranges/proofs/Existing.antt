-- Owners and zones that exist, and what the code makes of them.
use Rattle.std.proofs.Common.{◌≡◌, ◌↔◌, Bool, true≢false, ◌<◌, ◌+◌, ◌-◌, ℕ, true, false, List, length, insert}
use Rattle.std.proofs.Common.{remove, Option, Some, None, IsTrue, refl, sym, ap, subst, ◌∙◌, add-one}
use Rattle.std.specs.Prelude.{slice_get, slice_set, IsSomeAnd, IfSome}
use Rattle.std.specs.Option.{option_map, option_map_or, option_and_then}
use Rattle.std.specs.FinMap as map
use Rattle.base_numbered_lists.specs.Moved.{changed}
use Rattle.base_numbered_lists.proofs.Lists.{slice_get-found, slice_get-within, changed-found}
use Rattle.base_numbered_lists.proofs.Lists.{slice_get-changed}
use Rattle.bank_parts.specs.declared.owners.ZonePlace.TheVariants as place
use Rattle.bank_parts.specs.declared.parts.Zone.{Zone}
use Rattle.bank_parts.specs.declared.parts.ZoneOwner.{ZoneOwner}
use Rattle.bank_parts.specs.Owners.{HasPlace, zone_at, gens_at, entries_at, amount_at}
use Rattle.bank_parts.specs.Settings.{Settings, place_changed, settings_of_zone, settings_changed}
use Rattle.bank_parts.specs.Settings.{zone_with_settings, zones_at, zones_changed, with_zones, with_gens}
use Rattle.bank_parts.specs.ZoneChanges.{zone_added, zone_removed, gen_set, gen_cleared}
use Rattle.bank_zone_ranges.specs.declared.axes.Axis.{Axis}
use Rattle.bank_zone_ranges.specs.declared.axes.Keep.{Keep}
use Rattle.bank_zone_ranges.specs.declared.axes.Keep.TheVariants as keeping
use Rattle.bank_zone_ranges.specs.Ranges.{range_operator, range_of, own_range, low_end, range_from}
use Rattle.bank_zone_ranges.specs.Splits.{split_in_two, merged, lower_zone, upper_zone, zones_split, zone_split, zones_joined}
use Rattle.bank_zone_ranges.specs.Splits.{zone_joined, joint_range, joined, is_splittable, is_joinable, is_splittable_at, is_joinable_at, is_split_point}
use Rattle.bank_zone_ranges.specs.Splits.{agree_but_range, are_joinable}
use Rattle.bank_zone_ranges.specs.Undone.{own_amount}
use Rattle.bank_zone_ranges.proofs.SplitLists.{halves_at, changed_twice, left_first}
use Rattle.bank_zone_ranges.proofs.SplitLaws.{held}
use Rattle.bank_zone_ranges.proofs.AlikeLaws.{agreeing_removed, removed_agreeing, alike_zones, alike_is, is_alike}
use Rattle.bank_zone_ranges.proofs.AlikeLaws.{tests_equal}
use Rattle.bank_zone_ranges.specs.Agreement.{AgreesBut, AgreeBut, AgreesButAt}
use Rattle.std.specs.List.{AllByRecursion}
use Rattle.generators.specs.Gens.{Gens}

-- a zone of an owner
pub record ZoneThere {H : Type 0} (owners : List (ZoneOwner H)) (i k : ℕ) : Type 0 where
  pub member : ZoneOwner H
  pub there : slice_get owners i ≡ Some member
  pub zone : Zone
  pub zone_there : slice_get member.zones k ≡ Some zone

in_member : {H : Type 0} (owners : List (ZoneOwner H)) (i k : ℕ) (x : ZoneOwner H) → slice_get owners i ≡ Some x
    → k < length x.zones → ZoneThere owners i k
in_member owners i k x e lt =
    let (z, f) = slice_get-found x.zones k lt in record { member = x; there = e; zone = z; zone_there = f }

pub zone_is_there : {H : Type 0} (owners : List (ZoneOwner H)) (i k : ℕ) → HasPlace owners i (place.Zone k)
    → ZoneThere owners i k
zone_is_there {H} owners i k h =
    (elim (slice_get owners i) as (λ o. slice_get owners i ≡ o
    → IsSomeAnd (option_map (λ (x : ZoneOwner H). length x.zones) o) (λ n. k < n) → ZoneThere owners i k) [
      | None ↦ λ e n. absurd n
      | Some x ↦ λ e n. in_member owners i k x e n
    ]) refl h

module _ {H : Type 0} {owners : List (ZoneOwner H)} {i k : ℕ} (t : ZoneThere owners i k) where
  pub zone_is : zone_at owners i k ≡ Some t.zone
  zone_is = ap (option_and_then (λ (x : ZoneOwner H). slice_get x.zones k)) t.there ∙ t.zone_there

  pub place_there : (l : ℕ) → l < length t.member.zones → HasPlace owners i (place.Zone l)
  place_there l lt = rw t.there lt

  pub zone_within : k < length t.member.zones
  zone_within = slice_get-within t.member.zones k t.zone t.zone_there

module _ {H : Type 0} (owners : List (ZoneOwner H)) (i k : ℕ) (t : ZoneThere owners i k) where
  with_setting : (f : Settings → Settings)
      → changed t.member.zones k (λ (z : Zone). zone_with_settings (f (settings_of_zone z)) z)
      ≡ slice_set t.member.zones k (zone_with_settings (f (settings_of_zone t.zone)) t.zone)
  with_setting f =
      changed-found t.member.zones k (λ (z : Zone). zone_with_settings (f (settings_of_zone z)) z) t.zone
      t.zone_there

  pub split_put : (axis : Axis) (m : ℕ)
      → zone_added
      (gen_set owners i (place.Zone k) (range_operator axis)
      (range_from (low_end (range_of axis t.member.global t.zone)) (m - 1)))
      i (k + 1) (upper_zone axis m t.member.global t.zone)
      ≡ zone_split owners i k axis m
  split_put axis m =
      let x : ZoneOwner H = t.member in
      let z : Zone = t.zone in
      let f : Settings → Settings =
      λ s.
      with_gens
      (map.insert s.gens (range_operator axis) (range_from (low_end (range_of axis x.global z)) (m - 1)))
      s in
      let lower = lower_zone axis m x.global z in
      let upper = upper_zone axis m x.global z in
      let is : zones_split axis m x.global x.zones k ≡ split_in_two x.zones k lower upper = rw t.zone_there refl in
      changed_twice owners i (settings_changed (place.Zone k) f)
      (λ (y : ZoneOwner H). with_zones (insert y.zones (k + 1) upper) y) x t.there
      ∙ (ap (λ (zones : List Zone). slice_set owners i (with_zones zones x)) (ap
      (λ (zs : List Zone). insert zs (k + 1) upper) (with_setting f) ∙
      (sym (halves_at x.zones k lower upper (zone_within t)) ∙ sym is))
      ∙ sym
      (changed-found owners i (λ (x : ZoneOwner H). with_zones (zones_split axis m x.global x.zones k) x) x t.there))

  module _ (second : Zone) (next : slice_get t.member.zones (k + 1) ≡ Some second) where
    left : slice_get (remove t.member.zones (k + 1)) k ≡ Some t.zone
    left = rw add-one (left_first t.member.zones k t.zone second t.zone_there next)

    put_joined : (f : Settings → Settings) (axis : Axis) (keep : Keep)
        → zone_with_settings (f (settings_of_zone t.zone)) t.zone ≡ joined axis keep t.zone second
        → place_changed (zone_removed owners i (k + 1)) i (place.Zone k) f ≡ zone_joined owners i k axis keep
    put_joined f axis keep same =
        let x : ZoneOwner H = t.member in
        let is : zones_joined axis keep x.zones k ≡ merged x.zones k (joined axis keep t.zone second) =
        rw (t.zone_there, next) refl in
        changed_twice owners i (λ (y : ZoneOwner H). with_zones (remove y.zones (k + 1)) y)
        (settings_changed (place.Zone k) f) x t.there
        ∙ (ap (λ (zones : List Zone). slice_set owners i (with_zones zones x))
        (changed-found (remove x.zones (k + 1)) k (λ (z : Zone). zone_with_settings (f (settings_of_zone z)) z)
        t.zone left
        ∙ (ap (slice_set (remove x.zones (k + 1)) k) same ∙ sym is))
        ∙ sym (changed-found owners i (λ (x : ZoneOwner H). with_zones (zones_joined axis keep x.zones k) x) x t.there))

    pub join_put_keep : (axis : Axis)
        → gen_set (zone_removed owners i (k + 1)) i (place.Zone k) (range_operator axis)
        (joint_range (own_amount axis t.zone) (own_amount axis second))
        ≡ zone_joined owners i k axis keeping.Keep
    join_put_keep axis =
        put_joined
        (λ s.
        with_gens
        (map.insert s.gens (range_operator axis)
        (joint_range (own_amount axis t.zone) (own_amount axis second)))
        s)
        axis keeping.Keep refl

    pub join_put_bare : (axis : Axis)
        → gen_cleared (zone_removed owners i (k + 1)) i (place.Zone k) (range_operator axis)
        ≡ zone_joined owners i k axis keeping.Bare
    join_put_bare axis = put_joined (λ s. with_gens (map.remove s.gens (range_operator axis)) s) axis keeping.Bare refl

    -- the first zone exists without the second
    pub left_there : ZoneThere (zone_removed owners i (k + 1)) i k
    left_there = record {
      member = with_zones (remove t.member.zones (k + 1)) t.member;
      there = slice_get-changed owners i (λ (y : ZoneOwner H). with_zones (remove y.zones (k + 1)) y) t.member t.there;
      zone = t.zone;
      zone_there = left;
    }

pub has_place : {H : Type 0} (owners : List (ZoneOwner H)) (i k : ℕ) → ZoneThere owners i k
    → HasPlace owners i (place.Zone k)
has_place owners i k t = place_there t k (zone_within t)

pub amount_is : {H : Type 0} (owners : List (ZoneOwner H)) (i k : ℕ) (t : ZoneThere owners i k) (axis : Axis)
    → amount_at owners i (place.Zone k) (range_operator axis) ≡ own_range axis t.zone
amount_is owners i k t axis = rw (zone_is t) refl

-- ---- the tests

pub record SplitThere {H : Type 0} (axis : Axis) (m : ℕ) (owners : List (ZoneOwner H)) (i k : ℕ) : Type 0 where
  pub at : ZoneThere owners i k
  pub inside : is_split_point axis m at.member.global at.zone ≡ true

pub split_there : {H : Type 0} (axis : Axis) (m : ℕ) (owners : List (ZoneOwner H)) (i k : ℕ)
    → is_splittable_at axis m owners i k ≡ true → SplitThere axis m owners i k
split_there {H} axis m owners i k h =
    let x = held (λ (x : ZoneOwner H). is_splittable axis m k x) (slice_get owners i) h in
    let z = held (is_split_point axis m x.member.global) (slice_get x.member.zones k) x.holds in
    record
    { at = record { member = x.member; there = x.there; zone = z.member; zone_there = z.there }; inside = z.holds }

pub there_split : {H : Type 0} (axis : Axis) (m : ℕ) (owners : List (ZoneOwner H)) (i k : ℕ)
    (t : ZoneThere owners i k)
    → is_splittable_at axis m owners i k ≡ is_split_point axis m t.member.global t.zone
there_split axis m owners i k t = rw (t.there, t.zone_there) refl

pub record JoinThere {H : Type 0} (axis : Axis) (keep : Keep) (owners : List (ZoneOwner H)) (i k : ℕ) : Type 0 where
  pub at : ZoneThere owners i k
  pub second : Zone
  pub next : slice_get at.member.zones (k + 1) ≡ Some second
  pub joinable : are_joinable axis keep at.member.global at.zone second ≡ true

pub join_there : {H : Type 0} (axis : Axis) (keep : Keep) (owners : List (ZoneOwner H)) (i k : ℕ)
    → is_joinable_at axis keep owners i k ≡ true → JoinThere axis keep owners i k
join_there {H} axis keep owners i k h =
    let x = held (λ (x : ZoneOwner H). is_joinable axis keep k x) (slice_get owners i) h in
    let y =
    held
    (λ (y : Zone).
    option_map_or (are_joinable axis keep x.member.global y) (slice_get x.member.zones (k + 1)) false)
    (slice_get x.member.zones k) x.holds in
    let z = held (are_joinable axis keep x.member.global y.member) (slice_get x.member.zones (k + 1)) y.holds in
    record {
      at =
          record { member = x.member; there = x.there; zone = y.member; zone_there = y.there };
      second =
          z.member;
      next = z.there;
      joinable = z.holds;
    }

pub there_joined : {H : Type 0} (axis : Axis) (keep : Keep) (owners : List (ZoneOwner H)) (i k : ℕ)
    (t : ZoneThere owners i k) (z : Zone)
    → slice_get t.member.zones (k + 1) ≡ Some z
    → is_joinable_at axis keep owners i k ≡ are_joinable axis keep t.member.global t.zone z
there_joined axis _ owners i k t z e = rw (t.there, t.zone_there, e) refl

-- ---- two zones of one owner

module _ {H : Type 0} (owners : List (ZoneOwner H)) (i k : ℕ) (t : ZoneThere owners i k) where
  pub beside : (l : ℕ) → HasPlace owners i (place.Zone l) → (z : Zone) × (slice_get t.member.zones l ≡ Some z)
  beside l h = let lt : l < length t.member.zones = rw t.there at h in slice_get-found t.member.zones l lt

  gens_beside : (l : ℕ) (z : Zone) → slice_get t.member.zones l ≡ Some z → gens_at owners i (place.Zone l) ≡ Some z.gens
  gens_beside l z e = rw (t.there, e) refl

  pub agrees_at : (l n op : ℕ) (y z : Zone) (es : List (ℕ × ℕ)) (r : Bool) → slice_get t.member.zones l ≡ Some y
      → slice_get t.member.zones n ≡ Some z → entries_at owners i (place.Zone n) ≡ Some es
      → IsTrue r ↔ AllByRecursion (AgreesButAt owners i l op) es → IsTrue r ↔ AgreeBut y.gens op z.gens
  agrees_at l n op y z es r e f at h =
      let now : Some (map.entries z.gens) ≡ Some es = rw (t.there, f) at at in
      let same : es ≡ map.entries z.gens = cc in
      subst (λ (es : List (ℕ × ℕ)). IsTrue r ↔ AllByRecursion (AgreesBut y.gens op) es) same
      (subst
      (λ (o : Option Gens).
      IsTrue r ↔ AllByRecursion (λ (e : ℕ × ℕ). IfSome o (λ (m : Gens). AgreesBut m op e)) es)
      (gens_beside l y e) h)

pub both_agree : (m n : Gens) (op : ℕ) (r s : Bool) → r ≡ true → IsTrue r ↔ AgreeBut m op n
    → IsTrue s ↔ AgreeBut n op m → IsTrue s ↔ (map.remove m op ≡ map.remove n op)
both_agree m n op r s t h k =
    (λ y. agreeing_removed m n op (h.0 t) (k.0 y), λ same. k.1 (removed_agreeing n m op (sym same)))

pub one_agrees : (m n : Gens) (op : ℕ) (r : Bool) → r ≡ false → IsTrue r ↔ AgreeBut m op n
    → IsTrue false ↔ (map.remove m op ≡ map.remove n op)
one_agrees m n op r f h = (λ t. absurd (true≢false (sym t)), λ same. sym f ∙ h.1 (removed_agreeing m n op same))

pub not_alike : (axis : Axis) (y z : Zone) (r : Bool) → r ≡ false
    → IsTrue r ↔ (map.remove y.gens (range_operator axis) ≡ map.remove z.gens (range_operator axis))
    → false ≡ agree_but_range axis y z
not_alike axis y z r f h =
    tests_equal {P = map.remove y.gens (range_operator axis) ≡ map.remove z.gens (range_operator axis)} false
    (agree_but_range axis y z) (λ t. absurd (true≢false (sym t)), λ e. sym f ∙ h.1 e)
    (λ a. ap (λ (x : Zone). x.gens) (alike_is axis y z a)) (λ e. absurd (true≢false (sym (h.1 e) ∙ f)))

pub are_alike_by_mods : (axis : Axis) (y z : Zone) (r s : Bool) → y.target ≡ z.target → r ≡ true
    → IsTrue r ↔ (map.remove y.gens (range_operator axis) ≡ map.remove z.gens (range_operator axis))
    → IsTrue s ↔ (y.mods ≡ z.mods) → s ≡ agree_but_range axis y z
are_alike_by_mods axis y z r s target t h k =
    tests_equal {P = y.mods ≡ z.mods} s (agree_but_range axis y z) k (λ a. ap (λ (x : Zone). x.mods) (alike_is axis y z a))
    (λ e. is_alike axis y z ((alike_zones axis y z).0 (target, h.0 t, e)))

-- ---- the result of a join

module _ {H : Type 0} (owners : List (ZoneOwner H)) (i k : ℕ) (axis : Axis) (keep : Keep)
    (h : JoinThere axis keep owners i k) where
  -- the first zone, with its new amount
  abbrev Joined : Option ℕ → Type 0
  Joined was =
      option_map_or (λ amount. gen_set (zone_removed owners i (k + 1)) i (place.Zone k) (range_operator axis) amount)
      was (gen_cleared (zone_removed owners i (k + 1)) i (place.Zone k) (range_operator axis))
      ≡ zone_joined owners i k axis keep

  pub kept : (was : Option ℕ) (amount : ℕ) → keep ≡ keeping.Keep → was ≡ Some amount
      → amount ≡ joint_range (own_amount axis h.at.zone) (own_amount axis h.second) → Joined was
  kept was amount e f g = rw (e, f, g) (join_put_keep owners i k h.at h.second h.next axis)

  pub bared : (was : Option ℕ) → keep ≡ keeping.Bare → was ≡ None → Joined was
  bared was e f = rw (e, f) (join_put_bare owners i k h.at h.second h.next axis)

-- ---- a split and a join, as changes of the list of zones

module _ {H : Type 0} (owners : List (ZoneOwner H)) (i k : ℕ) (t : ZoneThere owners i k) where
  pub zones_there : zones_at owners i ≡ Some t.member.zones
  zones_there = ap (option_map (λ (x : ZoneOwner H). x.zones)) t.there

  pub split_is_put : (axis : Axis) (m : ℕ)
      → zone_split owners i k axis m
      ≡ zones_changed owners i
      (λ _.
      split_in_two t.member.zones k (lower_zone axis m t.member.global t.zone)
      (upper_zone axis m t.member.global t.zone))
  split_is_put axis m =
      let x : ZoneOwner H = t.member in
      let put = split_in_two x.zones k (lower_zone axis m x.global t.zone) (upper_zone axis m x.global t.zone) in
      let is : zones_split axis m x.global x.zones k ≡ put = rw t.zone_there refl in
      changed-found owners i (λ (x : ZoneOwner H). with_zones (zones_split axis m x.global x.zones k) x) x t.there
      ∙
      (ap (λ (zones : List Zone). slice_set owners i (with_zones zones x)) is
      ∙ sym (changed-found owners i (with_zones put) x t.there))

  pub join_is_put : (axis : Axis) (keep : Keep) (second : Zone) → slice_get t.member.zones (k + 1) ≡ Some second
      → zone_joined owners i k axis keep
      ≡ zones_changed owners i (λ _. merged t.member.zones k (joined axis keep t.zone second))
  join_is_put axis keep second next =
      let x : ZoneOwner H = t.member in
      let put = merged x.zones k (joined axis keep t.zone second) in
      let is : zones_joined axis keep x.zones k ≡ put = rw (t.zone_there, next) refl in
      changed-found owners i (λ (x : ZoneOwner H). with_zones (zones_joined axis keep x.zones k) x) x t.there
      ∙
      (ap (λ (zones : List Zone). slice_set owners i (with_zones zones x)) is
      ∙ sym (changed-found owners i (with_zones put) x t.there))
