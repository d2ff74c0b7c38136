use Rattle.std.proofs.Common.{◌≡◌, ◌≤◌, length}
use Rattle.std.specs.List.{flat_map}
use Rattle.bank_changes.specs.declared.members.Owner.TheVariants as owner
use Rattle.zone_select.specs.Remaining.{zones_in}
use Rattle.show_zone_map.specs.Rectangles.{rectangle_at, rectangles_in}
use Rattle.show_zone_map.specs.Picture.{small_samples, with_samples}
use Rattle.show_zone_map.proofs.Kept.{as_list}
use Rattle.show_zone_map.proofs.Rows.{from}
use Rattle.show_zone_map.proofs.legend.add_instrument.Given as goal

-- the rectangles of the remaining zones are still to be added
abbrev pub invariant-loop-zone : goal.invariant-loop-zone
invariant-loop-zone l = record {
  within : length l.legend ≤ 1024;
  whole : with_samples l.legend
      (small_samples
      (flat_map (λ k. as_list (rectangle_at l.bank l.preset_zone l.area l.instrument k))
      (from l.zone (zones_in l.bank (owner.Inst l.instrument)))))
      ≡ with_samples l.initial.legend (small_samples (rectangles_in l.bank l.preset_zone l.area l.instrument));
}
