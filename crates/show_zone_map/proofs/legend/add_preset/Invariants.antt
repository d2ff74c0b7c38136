use Rattle.std.proofs.Common.{◌≡◌, ◌≤◌, length}
use Rattle.std.specs.List.{flat_map}
use Rattle.bank_changes.specs.declared.members.Owner.TheVariants as owner
use Rattle.zone_select.specs.Remaining.{zones_in}
use Rattle.show_zone_map.specs.Rectangles.{rectangles, rectangles_of_zone}
use Rattle.show_zone_map.specs.Picture.{small_samples, with_samples}
use Rattle.show_zone_map.proofs.Rows.{from}
use Rattle.show_zone_map.proofs.legend.add_preset.Given as goal

-- the rectangles of the remaining zones are still to be added
abbrev pub invariant-loop-zone : goal.invariant-loop-zone
invariant-loop-zone l = record {
  within : length l.legend ≤ 1024;
  whole : with_samples l.legend
      (small_samples
      (flat_map (rectangles_of_zone l.bank l.preset) (from l.zone (zones_in l.bank (owner.Preset l.preset)))))
      ≡ with_samples l.initial.legend (small_samples (rectangles l.bank (owner.Preset l.preset)));
}
