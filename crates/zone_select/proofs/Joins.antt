-- A zone joined from two has the voices of the two.
use Rattle.std.proofs.Common.{◌≡◌, ◌≢◌, ℕ, ◌+◌, ◌≤◌, cond, nat_le, ◌&&◌, unwrap_or, List, [], ◌++◌, false, refl, sym}
use Rattle.std.proofs.Common.{ap, subst, ◌∙◌, inl, inr, arith}
use Rattle.std.proofs.lemmas.Bool.{cases_lt}
use Rattle.std.proofs.lemmas.Bool.Decides.{nat_tests}
use Rattle.script_notes.specs.Notes.{Numbers}
use Rattle.bank_parts.specs.declared.parts.GlobalZone.{GlobalZone}
use Rattle.bank_parts.specs.declared.parts.Zone.{Zone}
use Rattle.bank_zone_ranges.specs.declared.axes.Axis.{Axis}
use Rattle.bank_zone_ranges.specs.declared.axes.Axis.TheVariants.{Key, Vel}
use Rattle.bank_zone_ranges.specs.declared.axes.Keep.{Keep}
use Rattle.bank_zone_ranges.specs.declared.axes.Keep.TheVariants as keeping
use Rattle.bank_zone_ranges.specs.Ranges.{range_operator, low_end, high_end, whole_range, inherited_range, range_of}
use Rattle.bank_zone_ranges.specs.Splits.{joint_range, joined}
use Rattle.bank_zone_ranges.specs.Undone.{own_amount}
use Rattle.bank_zone_ranges.proofs.SplitLaws.{IsInherited, AreJoined, low_is_small}
use Rattle.zone_select.specs.Ranges.{within, holds}
use Rattle.zone_select.specs.ZoneSettings.{ZoneSettings, zone_settings}
use Rattle.zone_select.proofs.RangeLaws.{zone_settings-with, zone_settings-without, range-with, range-without, other-with}
use Rattle.zone_select.proofs.RangeLaws.{other-without, within_ends}
use Rattle.zone_select.proofs.Halves.{Halved, in_lower, in_upper, halved_first, halved_second, cond_halved}

-- two zones that can be joined, whose own ranges don't end before they begin
pub record AreJoinedInOrder (axis : Axis) (keep : Keep) (global : GlobalZone) (y z : Zone) : Type 0 where
  pub both : AreJoined axis keep global y z
  pub rises : low_end both.first ≤ high_end both.first
  pub rises_too : low_end both.second ≤ high_end both.second

ends_halved : (a b c d x : ℕ) → c ≡ b + 1 → a ≤ b → c ≤ d
    → Halved (nat_le a x && nat_le x d) (nat_le a x && nat_le x b) (nat_le c x && nat_le x d)
ends_halved a b c d x e h g =
    elim (cases_lt x c) [
      | inl l ↦ in_lower
          (let p : (nat_le a x && nat_le x b) ≡ (nat_le a x && nat_le x d) = grind (arith, nat_tests) in p)
          (let p : (nat_le c x && nat_le x d) ≡ false = grind (arith, nat_tests) in p)
      | inr l ↦ in_upper (let p : (nat_le a x && nat_le x b) ≡ false = grind (arith, nat_tests) in p)
          (let p : (nat_le c x && nat_le x d) ≡ (nat_le a x && nat_le x d) = grind (arith, nat_tests) in p)
    ]

-- ---- what doesn't change

other_of_joined : (global : GlobalZone) (y z : Zone) (axis other : Axis) (keep : Keep)
    → range_operator other ≢ range_operator axis
    → range_of other global (joined axis keep y z) ≡ range_of other global y
other_of_joined global y z axis other keeping.Keep n =
    other-with global y axis other (joint_range (own_amount axis y) (own_amount axis z)) n
other_of_joined global y z axis other keeping.Bare n = other-without global y axis other n

settings_of_joined : (global : GlobalZone) (y z : Zone) (axis : Axis) (keep : Keep)
    → zone_settings global y ≡ zone_settings global (joined axis keep y z)
settings_of_joined global y z axis keeping.Keep =
    zone_settings-with global y axis (joint_range (own_amount axis y) (own_amount axis z))
settings_of_joined global y z axis keeping.Bare = zone_settings-without global y axis

target_of_joined : (y z : Zone) (axis : Axis) (keep : Keep) → y.target ≡ (joined axis keep y z).target
target_of_joined y z axis keeping.Keep = refl
target_of_joined y z axis keeping.Bare = refl

module _ (axis : Axis) (keep : Keep) (global : GlobalZone) (y z : Zone) (h : AreJoinedInOrder axis keep global y z)
  where
    same_settings : zone_settings global y ≡ zone_settings global z
    same_settings = zone_settings-without global y axis ∙ ap (zone_settings global) h.both.agreement ∙ sym (zone_settings-without global z axis)

    same_other : (other : Axis) → range_operator other ≢ range_operator axis
        → range_of other global y ≡ range_of other global z
    same_other other n =
        sym (other-without global y axis other n) ∙ ap (range_of other global) h.both.agreement
        ∙ other-without global z axis other n

    same_target : y.target ≡ z.target
    same_target = ap (λ (x : Zone). x.target) h.both.agreement

    -- ---- the notes that the joined zone contains

    joint_is : joint_range (own_amount axis y) (own_amount axis z) ≡ joint_range h.both.first h.both.second
    joint_is = λ i. joint_range (unwrap_or (h.both.own_first i) whole_range) (unwrap_or (h.both.own_second i) whole_range)

    range_of_joined : (keep : Keep) → IsInherited axis keep global (joint_range h.both.first h.both.second)
        → range_of axis global (joined axis keep y z) ≡ joint_range h.both.first h.both.second
    range_of_joined keeping.Keep i =
        range-with global y axis (joint_range (own_amount axis y) (own_amount axis z)) ∙ joint_is
    range_of_joined keeping.Bare i = range-without global y axis ∙ sym i

    axis_halved : (x : ℕ)
        → Halved (within (range_of axis global (joined axis keep y z)) x) (within (range_of axis global y) x)
        (within (range_of axis global z) x)
    axis_halved x =
        let v : ℕ = h.both.first in
        let w : ℕ = h.both.second in
        let joint = range_of_joined keep h.both.inherited in
        subst (λ r. Halved (within r.0 x) (within r.1 x) (within r.2 x))
        (λ i. let r : ℕ × ℕ × ℕ = (
          sym joint i,
          unwrap_or (sym h.both.own_first i) (inherited_range axis global),
          unwrap_or (sym h.both.own_second i) (inherited_range axis global),
        )
        in r)
        (subst (λ t. Halved t (within v x) (within w x)) (sym (within_ends (low_end v) (high_end w) x (low_is_small v)))
        (ends_halved (low_end v) (high_end v) (low_end w) (high_end w) x h.both.next h.rises h.rises_too))

joined_holds : (n : Numbers) (global : GlobalZone) (y z : Zone) (axis : Axis) (keep : Keep)
    → AreJoinedInOrder axis keep global y z
    → Halved (holds n global (joined axis keep y z)) (holds n global y) (holds n global z)
unfolding holds
joined_holds n global y z Key keep h =
    let x : Zone = joined Key keep y z in
    let e : range_of Vel global x ≡ range_of Vel global y =
    other_of_joined global y z Key Vel keep (omega arith) in
    subst
    (λ r.
    Halved (within (range_of Key global x) n.key && within r.0 n.velocity)
    (within (range_of Key global y) n.key && within (range_of Vel global y) n.velocity)
    (within (range_of Key global z) n.key && within r.1 n.velocity))
    (λ i. let r : ℕ × ℕ = (sym e i, same_other Key keep global y z h Vel (omega arith) i) in r)
    (halved_first (within (range_of Key global x) n.key) (within (range_of Key global y) n.key)
    (within (range_of Key global z) n.key) (within (range_of Vel global y) n.velocity)
    (axis_halved Key keep global y z h n.key))
joined_holds n global y z Vel keep h =
    let x : Zone = joined Vel keep y z in
    let e : range_of Key global x ≡ range_of Key global y =
    other_of_joined global y z Vel Key keep (omega arith) in
    subst
    (λ r.
    Halved (within r.0 n.key && within (range_of Vel global x) n.velocity)
    (within (range_of Key global y) n.key && within (range_of Vel global y) n.velocity)
    (within r.1 n.key && within (range_of Vel global z) n.velocity))
    (λ i. let r : ℕ × ℕ = (sym e i, same_other Vel keep global y z h Key (omega arith) i) in r)
    (halved_second (within (range_of Vel global x) n.velocity) (within (range_of Vel global y) n.velocity)
    (within (range_of Vel global z) n.velocity) (within (range_of Key global y) n.key)
    (axis_halved Vel keep global y z h n.velocity))

pub joined_gives : {X : Type 0} (inside : ZoneSettings → ℕ → List X) (n : Numbers) (global : GlobalZone) (y z : Zone)
    (axis : Axis) (keep : Keep)
    → AreJoinedInOrder axis keep global y z
    →
    (let give : Zone → List X =
    λ x.
    cond (holds n global x) (inside (zone_settings global x) x.target) [] in give (joined axis keep y z)
    ≡ give y ++ give z)
joined_gives inside n global y z axis keep h =
    let x : Zone = joined axis keep y z in
    (λ i.
    cond (holds n global x)
    (inside (sym (settings_of_joined global y z axis keep) i) (sym (target_of_joined y z axis keep) i)) [])
    ∙ cond_halved (holds n global x) (holds n global y) (holds n global z) (inside (zone_settings global y) y.target)
    (joined_holds n global y z axis keep h)
    ∙
    (λ i.
    cond (holds n global y) (inside (zone_settings global y) y.target) []
    ++ cond (holds n global z)
    (inside (same_settings axis keep global y z h i) (same_target axis keep global y z h i)) [])
