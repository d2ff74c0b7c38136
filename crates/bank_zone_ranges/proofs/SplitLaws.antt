-- Split and join of zones: their undo laws, and when each can be done.
use Rattle.std.proofs.Common.{◌≡◌, ℕ, Bool, true, false, ◌<◌, ◌≤◌, ◌+◌, ◌-◌, ◌==◌, nat_le, nat_lt, List, Option}
use Rattle.std.proofs.Common.{Some, None, cond, unwrap_or, refl, sym, ap, ◌∙◌, arith}
use Rattle.std.proofs.lemmas.Bool.Decides.{nat_tests}
use Rattle.std.specs.Prelude.{slice_get, slice_set}
use Rattle.std.specs.Option.{option_map_or}
use Rattle.base_numbered_lists.proofs.Lists.{slice_get-within, slice_set_same}
use Rattle.generators.specs.Gens.{Gens}
use Rattle.generators.specs.Ranges.{IsRange}
use Rattle.generators.proofs.MapLaws as gens
use Rattle.generators.proofs.Order.{tied, tied_same, tied_is_same}
use Rattle.std.specs.FinMap as map
use Rattle.bank_parts.specs.declared.parts.GlobalZone.{GlobalZone}
use Rattle.bank_parts.specs.declared.parts.Zone.{Zone}
use Rattle.bank_parts.specs.declared.parts.ZoneOwner.{ZoneOwner}
use Rattle.bank_parts.specs.Settings.{with_zones}
use Rattle.bank_zone_ranges.specs.declared.axes.Axis.{Axis}
use Rattle.bank_zone_ranges.specs.declared.axes.Keep.{Keep}
use Rattle.bank_zone_ranges.specs.declared.axes.Keep.TheVariants as keeping
use Rattle.bank_zone_ranges.specs.Ranges.{range_operator, low_end, high_end, range_from, whole_range, own_range}
use Rattle.bank_zone_ranges.specs.Ranges.{inherited_range, range_of, with_range, without_range}
use Rattle.bank_zone_ranges.specs.Splits.{is_split_point, lower_zone, upper_zone, split_in_two, zones_split, agree_but_range, joint_range}
use Rattle.bank_zone_ranges.specs.Splits.{are_neighbours, have_neighbours, are_joinable, joined, merged, zones_joined}
use Rattle.bank_zone_ranges.specs.Splits.{keep_for}
use Rattle.bank_zone_ranges.specs.Undone.{own_low, own_amount, SplitUndone, JoinUndone, SplitIsJoinable, JoinIsSplittable}
use Rattle.bank_zone_ranges.proofs.AlikeLaws.{both_left, both_right, both, equal, alike_is, is_alike}
use Rattle.bank_zone_ranges.proofs.SplitLists.{first_split, second_split, merged_split, first_merged, split_merged}
use Rattle.bank_zone_ranges.proofs.SplitLists.{changed_back}

-- ---- amounts of ranges

pub low_of_range : (low high : ℕ) → low < 256 → low_end (range_from low high) ≡ low
low_of_range low high h = omega arith

pub high_of_range : (low high : ℕ) → low < 256 → high_end (range_from low high) ≡ high
high_of_range low high h = omega arith

range_of_ends : (w : ℕ) → range_from (low_end w) (high_end w) ≡ w
range_of_ends w = omega arith

pub low_is_small : (w : ℕ) → low_end w < 256
low_is_small w = omega arith

-- ---- the tests, as facts

pub record IsSplitAt (axis : Axis) (m : ℕ) (global : GlobalZone) (z : Zone) : Type 0 where
  pub above : low_end (range_of axis global z) < m
  pub within : m ≤ high_end (range_of axis global z)

lt_is : (a b : ℕ) → nat_lt a b ≡ true → a < b
lt_is a b h = grind (arith, nat_tests)

is_lt : (a b : ℕ) → a < b → nat_lt a b ≡ true
is_lt a b h = grind (arith, nat_tests)

le_is : (a b : ℕ) → nat_le a b ≡ true → a ≤ b
le_is a b h = grind (arith, nat_tests)

is_le : (a b : ℕ) → a ≤ b → nat_le a b ≡ true
is_le a b h = grind (arith, nat_tests)

same_is : (a b : ℕ) → a ≡ b → (a == b) ≡ true
same_is a b h = grind (arith, nat_tests)

pub split_at : (axis : Axis) (m : ℕ) (global : GlobalZone) (z : Zone) → is_split_point axis m global z ≡ true
    → IsSplitAt axis m global z
split_at axis m global z h =
    let w = range_of axis global z in
    record {
      above = lt_is (low_end w) m (both_left (nat_lt (low_end w) m) (nat_le m (high_end w)) h);
      within = le_is m (high_end w) (both_right (nat_lt (low_end w) m) (nat_le m (high_end w)) h);
    }

pub at_split : (axis : Axis) (m : ℕ) (global : GlobalZone) (z : Zone) → IsSplitAt axis m global z
    → is_split_point axis m global z ≡ true
at_split axis m global z h =
    let w = range_of axis global z in
    both (nat_lt (low_end w) m) (nat_le m (high_end w)) (is_lt (low_end w) m h.above) (is_le m (high_end w) h.within)

-- without a range of its own, the joined zone inherits both ranges together
abbrev pub IsInherited : Axis → Keep → GlobalZone → ℕ → Type 0
IsInherited axis keeping.Keep global amount = Unit {0}
IsInherited axis keeping.Bare global amount = amount ≡ inherited_range axis global

pub record AreJoined (axis : Axis) (keep : Keep) (global : GlobalZone) (y z : Zone) : Type 0 where
  pub agreement : without_range axis y ≡ without_range axis z
  pub first : ℕ
  pub own_first : own_range axis y ≡ Some first
  pub second : ℕ
  pub own_second : own_range axis z ≡ Some second
  pub next : low_end second ≡ high_end first + 1
  pub inherited : IsInherited axis keep global (joint_range first second)

inherited_is : (axis : Axis) (keep : Keep) (global : GlobalZone) (v w : ℕ)
    → are_neighbours axis keep global v w ≡ true
    → (low_end w ≡ high_end v + 1) × IsInherited axis keep global (joint_range v w)
inherited_is axis keeping.Keep global v w h = (equal (low_end w) (high_end v + 1) h, tt)
inherited_is axis keeping.Bare global v w h =
    let next = low_end w == high_end v + 1 in
    let whole = joint_range v w == inherited_range axis global in (
      equal (low_end w) (high_end v + 1) (both_left next whole h),
      equal (joint_range v w) (inherited_range axis global) (both_right next whole h),
    )

neighbours_are : (axis : Axis) (keep : Keep) (global : GlobalZone) (v w : ℕ) → low_end w ≡ high_end v + 1
    → IsInherited axis keep global (joint_range v w) → are_neighbours axis keep global v w ≡ true
neighbours_are axis keeping.Keep global v w n i = same_is (low_end w) (high_end v + 1) n
neighbours_are axis keeping.Bare global v w n i =
    both (low_end w == high_end v + 1) (joint_range v w == inherited_range axis global)
    (same_is (low_end w) (high_end v + 1) n) (same_is (joint_range v w) (inherited_range axis global) i)

pub record Held {X : Type 0} (test : X → Bool) (o : Option X) : Type 0 where
  pub member : X
  pub there : o ≡ Some member
  pub holds : test member ≡ true

pub held : {X : Type 0} (test : X → Bool) (o : Option X) → option_map_or test o false ≡ true → Held test o
held test None h = cc
held test (Some x) h = record { member = x; there = refl; holds = h }

pub joined_at : (axis : Axis) (keep : Keep) (global : GlobalZone) (y z : Zone)
    → are_joinable axis keep global y z ≡ true → AreJoined axis keep global y z
joined_at axis keep global y z h =
    let neighbours = both_right (agree_but_range axis y z) (have_neighbours axis keep global y z) h in
    let v =
    held
    (λ first. option_map_or (λ second. are_neighbours axis keep global first second) (own_range axis z) false)
    (own_range axis y) neighbours in
    let w = held (λ second. are_neighbours axis keep global v.member second) (own_range axis z) v.holds in
    let ends = inherited_is axis keep global v.member w.member w.holds in
    record {
      agreement = alike_is axis y z (both_left (agree_but_range axis y z) (have_neighbours axis keep global y z) h);
      first = v.member;
      own_first = v.there;
      second = w.member;
      own_second = w.there;
      next = ends.0;
      inherited = ends.1;
    }

pub at_joined : (axis : Axis) (keep : Keep) (global : GlobalZone) (y z : Zone) → AreJoined axis keep global y z
    → are_joinable axis keep global y z ≡ true
at_joined axis keep global y z h =
    both (agree_but_range axis y z) (have_neighbours axis keep global y z) (is_alike axis y z h.agreement)
    (rw (h.own_first, h.own_second) (neighbours_are axis keep global h.first h.second h.next h.inherited))

-- ---- zones with and without their own range

same_gens_by : (m n : Gens) (op : ℕ) → map.get m op ≡ map.get n op
    → ((q : ℕ) → tied q op ≡ false → map.get m q ≡ map.get n q) → m ≡ n
same_gens_by m n op at else_same =
    gens.same_gens m n (λ q. (elim (tied q op) as (λ b. tied q op ≡ b → map.get m q ≡ map.get n q) [
      | true ↦ λ p. let same : q ≡ op = tied_is_same q op p in ap (map.get m) same ∙ at ∙ ap (map.get n) (sym same)
      | false ↦ λ p. else_same q p
    ]) refl)

get_inserted : (m : Gens) (op w : ℕ) → map.get (map.insert m op w) op ≡ Some w
get_inserted m op w = gens.get-insert_any m op w op ∙ ap (λ b. cond b (Some w) (map.get m op)) (tied_same op)

get_removed : (m : Gens) (op : ℕ) → map.get (map.remove m op) op ≡ None
get_removed m op = gens.get-remove_any m op op ∙ ap (λ b. cond b None (map.get m op)) (tied_same op)

get_inserted_else : (m : Gens) (op w q : ℕ) → tied q op ≡ false → map.get (map.insert m op w) q ≡ map.get m q
get_inserted_else m op w q p = gens.get-insert_any m op w q ∙ ap (λ b. cond b (Some w) (map.get m q)) p

get_removed_else : (m : Gens) (op q : ℕ) → tied q op ≡ false → map.get (map.remove m op) q ≡ map.get m q
get_removed_else m op q p = gens.get-remove_any m op q ∙ ap (λ b. cond b None (map.get m q)) p

insert_removed : (m : Gens) (op w : ℕ) → map.insert (map.remove m op) op w ≡ map.insert m op w
insert_removed m op w =
    same_gens_by (map.insert (map.remove m op) op w) (map.insert m op w) op
    (get_inserted (map.remove m op) op w ∙ sym (get_inserted m op w))
    (λ q p.
    get_inserted_else (map.remove m op) op w q p ∙ get_removed_else m op q p ∙ sym (get_inserted_else m op w q p))

remove_inserted : (m : Gens) (op w : ℕ) → map.remove (map.insert m op w) op ≡ map.remove m op
remove_inserted m op w =
    same_gens_by (map.remove (map.insert m op w) op) (map.remove m op) op
    (get_removed (map.insert m op w) op ∙ sym (get_removed m op))
    (λ q p.
    get_removed_else (map.insert m op w) op q p ∙ get_inserted_else m op w q p ∙ sym (get_removed_else m op q p))

with_twice : (axis : Axis) (v w : ℕ) (z : Zone) → with_range axis w (with_range axis v z) ≡ with_range axis w z
with_twice axis v w z =
    ap (λ (gens : Gens). let r : Zone = record z { gens = gens } in r)
    (gens.insert-insert z.gens (range_operator axis) v w)

with_after_without : (axis : Axis) (w : ℕ) (z : Zone) → with_range axis w (without_range axis z) ≡ with_range axis w z
with_after_without axis w z =
    ap (λ (gens : Gens). let r : Zone = record z { gens = gens } in r)
    (insert_removed z.gens (range_operator axis) w)

with_own : (axis : Axis) (w : ℕ) (z : Zone) → own_range axis z ≡ Some w → with_range axis w z ≡ z
with_own axis w z e =
    ap (λ (gens : Gens). let r : Zone = record z { gens = gens } in r)
    (gens.insert-present z.gens (range_operator axis) w e)

without_again : (axis : Axis) (w : ℕ) (z : Zone) → own_range axis z ≡ None
    → without_range axis (with_range axis w z) ≡ z
without_again axis w z e =
    ap (λ (gens : Gens). let r : Zone = record z { gens = gens } in r)
    (gens.remove-insert z.gens (range_operator axis) w e)

without_with : (axis : Axis) (w : ℕ) (z : Zone) → without_range axis (with_range axis w z) ≡ without_range axis z
without_with axis w z =
    ap (λ (gens : Gens). let r : Zone = record z { gens = gens } in r)
    (remove_inserted z.gens (range_operator axis) w)

pub own_with : (axis : Axis) (w : ℕ) (z : Zone) → own_range axis (with_range axis w z) ≡ Some w
own_with axis w z = get_inserted z.gens (range_operator axis) w

pub own_without : (axis : Axis) (z : Zone) → own_range axis (without_range axis z) ≡ None
own_without axis z = get_removed z.gens (range_operator axis)

-- ---- the join after a split

module _ (axis : Axis) (m : ℕ) (global : GlobalZone) (z : Zone) (small : m < 256) where
  lower_amount : ℕ
  lower_amount = range_from (low_end (range_of axis global z)) (m - 1)

  upper_amount : ℕ
  upper_amount = range_from m (high_end (range_of axis global z))

  pub joint_of_parts : joint_range (range_from (low_end (range_of axis global z)) (m - 1))
      (range_from m (high_end (range_of axis global z)))
      ≡ range_of axis global z
  joint_of_parts =
      let w = range_of axis global z in
      let low = low_of_range (low_end w) (m - 1) (low_is_small w) in
      let high = high_of_range m (high_end w) small in
      (λ i. range_from (low i) (high i)) ∙ range_of_ends w

  joint_of_own : joint_range (own_amount axis (lower_zone axis m global z))
      (own_amount axis (upper_zone axis m global z))
      ≡ range_of axis global z
  joint_of_own =
      let w = range_of axis global z in
      let one = ap (λ o. unwrap_or o whole_range) (own_with axis (range_from (low_end w) (m - 1)) z) in
      let two = ap (λ o. unwrap_or o whole_range) (own_with axis (range_from m (high_end w)) z) in
      (λ i. joint_range (one i) (two i)) ∙ joint_of_parts

  pub joined_parts : joined axis (keep_for axis z) (lower_zone axis m global z) (upper_zone axis m global z) ≡ z
  joined_parts =
      (elim (own_range axis z) as (λ o. own_range axis z ≡ o → joined axis
      (option_map_or (λ _. keeping.Keep) o keeping.Bare) (lower_zone axis m global z)
      (upper_zone axis m global z) ≡ z) [
        | None ↦ λ e. without_again axis (range_from (low_end (range_of axis global z)) (m - 1)) z e
        | Some w ↦ λ e.
            ap (λ amount. with_range axis amount (lower_zone axis m global z))
            (joint_of_own ∙ ap (λ o. unwrap_or o (inherited_range axis global)) e)
            ∙ with_twice axis (range_from (low_end (range_of axis global z)) (m - 1)) w z ∙ with_own axis w z e
      ]) refl

  pub split_joined : (zones : List Zone) (k : ℕ) → slice_get zones k ≡ Some z
      → zones_joined axis (keep_for axis z) (zones_split axis m global zones k) k ≡ zones
  split_joined zones k there =
      let lower = lower_zone axis m global z in
      let upper = upper_zone axis m global z in
      let inside = slice_get-within zones k z there in
      rw (there, first_split zones k lower upper inside, second_split zones k lower upper inside)
      (merged_split zones k lower upper inside (joined axis (keep_for axis z) lower upper)
      ∙ ap (slice_set zones k) joined_parts ∙ slice_set_same zones k z there)

  parts_joinable : IsSplitAt axis m global z
      → AreJoined axis (keep_for axis z) global (lower_zone axis m global z) (upper_zone axis m global z)
  parts_joinable h =
      let w = range_of axis global z in
      let v = range_from (low_end w) (m - 1) in
      let u = range_from m (high_end w) in
      let above = h.above in
      let high = high_of_range (low_end w) (m - 1) (low_is_small w) in
      let low = low_of_range m (high_end w) small in
      record {
        agreement = without_with axis v z ∙ sym (without_with axis u z);
        first = v;
        own_first = own_with axis v z;
        second = u;
        own_second = own_with axis u z;
        next = omega (arith, high, low, above);
        inherited = (elim (own_range axis z) as (λ o. own_range axis z ≡ o
            → IsInherited axis (option_map_or (λ _. keeping.Keep) o keeping.Bare) global (joint_range v u)) [
              | None ↦ λ e. joint_of_parts ∙ ap (λ o. unwrap_or o (inherited_range axis global)) e
              | Some w ↦ λ e. tt
            ]) refl;
      }

pub split_is_joinable : SplitIsJoinable
split_is_joinable axis m global z small h =
    at_joined axis (keep_for axis z) global (lower_zone axis m global z) (upper_zone axis m global z)
    (parts_joinable axis m global z small (split_at axis m global z h))

pub split_undone : {H : Type 0} → SplitUndone H
split_undone {H} owners i k axis m x z there zone small h =
    changed_back owners i (λ (x : ZoneOwner H). with_zones (zones_split axis m x.global x.zones k) x)
    (λ (x : ZoneOwner H). with_zones (zones_joined axis (keep_for axis z) x.zones k) x) x there
    (ap (λ zones. with_zones zones x) (split_joined axis m x.global z small x.zones k zone))

-- ---- the split after a join

module _ (axis : Axis) (keep : Keep) (global : GlobalZone) (y z : Zone) (h : AreJoined axis keep global y z) where
  rejoined : (keep : Keep) (w : ℕ) → with_range axis w (joined axis keep y z) ≡ with_range axis w y
  rejoined keeping.Keep w = with_twice axis (joint_range (own_amount axis y) (own_amount axis z)) w y
  rejoined keeping.Bare w = with_after_without axis w y

  own_is : own_amount axis y ≡ h.first
  own_is = ap (λ o. unwrap_or o whole_range) h.own_first

  pub second_is : own_amount axis z ≡ h.second
  second_is = ap (λ o. unwrap_or o whole_range) h.own_second

  joint_is : joint_range (own_amount axis y) (own_amount axis z) ≡ joint_range h.first h.second
  joint_is = λ i. joint_range (own_is i) (second_is i)

  range_of_joined : (keep : Keep) → IsInherited axis keep global (joint_range h.first h.second)
      → range_of axis global (joined axis keep y z) ≡ joint_range h.first h.second
  range_of_joined keeping.Keep i =
      ap (λ o. unwrap_or o (inherited_range axis global))
      (own_with axis (joint_range (own_amount axis y) (own_amount axis z)) y)
      ∙ joint_is
  range_of_joined keeping.Bare i = ap (λ o. unwrap_or o (inherited_range axis global)) (own_without axis y) ∙ sym i

  lower_of_joined : lower_zone axis (own_low axis z) global (joined axis keep y z) ≡ y
  lower_of_joined =
      let v = h.first in
      let w = h.second in
      let union = range_of_joined keep h.inherited in
      let low = ap low_end union ∙ low_of_range (low_end v) (high_end w) (low_is_small v) in
      let next = h.next in
      let is = ap low_end second_is in
      let high : own_low axis z - 1 ≡ high_end v = omega (arith, next, is) in
      (λ i. with_range axis (range_from (low i) (high i)) (joined axis keep y z))
      ∙ ap (λ amount. with_range axis amount (joined axis keep y z)) (range_of_ends v) ∙ rejoined keep v
      ∙ with_own axis v y h.own_first

  upper_of_joined : upper_zone axis (own_low axis z) global (joined axis keep y z) ≡ z
  upper_of_joined =
      let v = h.first in
      let w = h.second in
      let union = range_of_joined keep h.inherited in
      let high = ap high_end union ∙ high_of_range (low_end v) (high_end w) (low_is_small v) in
      let low = ap low_end second_is in
      (λ i. with_range axis (range_from (low i) (high i)) (joined axis keep y z))
      ∙ ap (λ amount. with_range axis amount (joined axis keep y z)) (range_of_ends w) ∙ rejoined keep w
      ∙ sym (with_after_without axis w y) ∙ ap (with_range axis w) h.agreement ∙ with_after_without axis w z
      ∙ with_own axis w z h.own_second

  pub joined_split : (zones : List Zone) (k : ℕ) → slice_get zones k ≡ Some y → slice_get zones (k + 1) ≡ Some z
      → zones_split axis (own_low axis z) global (zones_joined axis keep zones k) k ≡ zones
  joined_split zones k first second =
      let one = joined axis keep y z in
      let lower = lower_of_joined in
      let upper = upper_of_joined in
      rw (first, second, first_merged zones k y z first second one)
      ((λ i. split_in_two (merged zones k one) k (lower i) (upper i)) ∙ split_merged zones k y z first second one)

  joined_inside : IsRange (own_amount axis y) → IsRange (own_amount axis z)
      → IsSplitAt axis (own_low axis z) global (joined axis keep y z)
  joined_inside first second =
      let v = h.first in
      let w = h.second in
      let union = range_of_joined keep h.inherited in
      let low = ap low_end union ∙ low_of_range (low_end v) (high_end w) (low_is_small v) in
      let high = ap high_end union ∙ high_of_range (low_end v) (high_end w) (low_is_small v) in
      let next = h.next in
      let is = ap low_end second_is in
      let a : low_end v ≤ high_end v = rw own_is at first.0 in
      let b : low_end w ≤ high_end w = rw second_is at second.0 in
      record { above = omega (arith, low, next, a, is); within = omega (arith, high, b, is) }

pub join_is_splittable : JoinIsSplittable
join_is_splittable axis keep global y z h first second =
    at_split axis (own_low axis z) global (joined axis keep y z)
    (joined_inside axis keep global y z (joined_at axis keep global y z h) first second)

pub join_undone : {H : Type 0} → JoinUndone H
join_undone {H} owners i k axis keep x y z there first second h =
    changed_back owners i (λ (x : ZoneOwner H). with_zones (zones_joined axis keep x.zones k) x)
    (λ (x : ZoneOwner H). with_zones (zones_split axis (own_low axis z) x.global x.zones k) x) x there
    (ap (λ zones. with_zones zones x)
    (joined_split axis keep x.global y z (joined_at axis keep x.global y z h) x.zones k first second))

pub keep_of_joined : (axis : Axis) (keep : Keep) (y z : Zone) → keep_for axis (joined axis keep y z) ≡ keep
keep_of_joined axis keeping.Keep y z =
    ap (λ o. option_map_or (λ _. keeping.Keep) o keeping.Bare)
    (own_with axis (joint_range (own_amount axis y) (own_amount axis z)) y)
keep_of_joined axis keeping.Bare y z = ap (λ o. option_map_or (λ _. keeping.Keep) o keeping.Bare) (own_without axis y)
