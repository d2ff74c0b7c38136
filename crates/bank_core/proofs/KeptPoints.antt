-- The number of points that a bank keeps beside its parts, when an edit changes both.
use Rattle.std.proofs.Common.{◌≡◌, ℕ, List, None, sym, ap, refl, subst, ◌∙◌}
use Rattle.std.specs.Prelude.{Result, Ok, Err, OnOk, OnErr}
use Rattle.bank_parts.specs.declared.parts.Parts.{Parts}
use Rattle.bank_parts.specs.declared.parts.ZoneOwner.{ZoneOwner}
use Rattle.bank_parts.specs.Valid.{point_total}
use Rattle.bank_parts.specs.Sound.{IsSound}
use Rattle.bank_validity.specs.declared.totals.Totals.{Totals}
use Rattle.bank_validity.specs.Limits.{totals_of, broken}
use Rattle.bank_validity.proofs.LimitLaws.{no_limit_of}
use Rattle.bank_changes.specs.declared.members.Owner.{Owner}
use Rattle.bank_changes.specs.declared.members.Owner.TheVariants as owner
use Rattle.bank_changes.specs.Members.{owner_list_changed}

-- a change of an owner keeps the samples
pub owner_points : (b : Parts) (o : Owner) (f : (H : Type 0) → List (ZoneOwner H) → ℕ → List (ZoneOwner H))
    → point_total (owner_list_changed b o f).samples ≡ point_total b.samples
owner_points b (owner.Preset p) f = refl
owner_points b (owner.Inst i) f = refl

-- banks with equal totals have equally many points
pub same_points : (b c : Parts) → totals_of c ≡ totals_of b → point_total c.samples ≡ point_total b.samples
unfolding totals_of
same_points b c e = ap (λ (t : Totals). t.points) e

-- no limit is broken
pub no_limit_now : (b : Parts) (t : Totals) → IsSound b → t ≡ totals_of b → broken t ≡ None
no_limit_now b t sound e = ap broken e ∙ no_limit_of b sound.valid.limits

module _ {b inside : Parts} {points : ℕ} (view : inside ≡ b)
    (kept : IsSound inside × (points ≡ point_total inside.samples)) where
  pub sound_before : IsSound b
  sound_before = subst IsSound view kept.0

  pub points_before : points ≡ point_total b.samples
  points_before = kept.1 ∙ ap (λ (b : Parts). point_total b.samples) view

  -- after a change
  pub kept_then : {new now : Parts} {after : ℕ} → new ≡ now → IsSound now → after ≡ point_total now.samples
      → IsSound new × (after ≡ point_total new.samples)
  kept_then is sound counted =
      (subst IsSound (sym is) sound, counted ∙ ap (λ (b : Parts). point_total b.samples) (sym is))

  -- after a change that keeps the number of points
  pub kept_still : {new now : Parts} → new ≡ now → IsSound now → point_total now.samples ≡ point_total b.samples
      → IsSound new × (points ≡ point_total new.samples)
  kept_still is sound same = kept_then is sound (points_before ∙ sym same)

  -- after such a change, or a failed one that changes nothing
  pub kept_either : {A B : Type 0} (r : Result A B) {new now : Parts} → OnOk r (new ≡ now) → OnErr r (new ≡ inside)
      → IsSound now → point_total now.samples ≡ point_total b.samples
      → IsSound new × (points ≡ point_total new.samples)
  kept_either (Ok a) is same sound counted = kept_still is sound counted
  kept_either (Err e) is same sound counted = kept_then same kept.0 kept.1
