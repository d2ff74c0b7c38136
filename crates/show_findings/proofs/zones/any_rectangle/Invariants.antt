use Rattle.std.proofs.Common.{◌≡◌, ℕ, Option}
use Rattle.std.specs.Prelude.{is_some}
use Rattle.std.specs.List.{list_any}
use Rattle.bank_changes.specs.declared.members.Owner.TheVariants as owner
use Rattle.zone_select.specs.Remaining.{zones_in}
use Rattle.show_zone_map.specs.Rectangles.{rectangle_at, zone_numbers}
use Rattle.show_findings.proofs.GatherLaws.{from}
use Rattle.show_findings.proofs.zones.any_rectangle.Given as goal

-- the zones so far make no rectangle
abbrev pub invariant-loop-zone : goal.invariant-loop-zone
invariant-loop-zone l = (outer : Option ℕ)
    → list_any (λ k. is_some (rectangle_at l.bank outer l.area l.instrument k)) (zone_numbers l.bank (owner.Inst l.instrument))
    ≡ list_any (λ k. is_some (rectangle_at l.bank outer l.area l.instrument k))
    (from l.zone (zones_in l.bank (owner.Inst l.instrument)))
