use Rattle.std.specs.List.{flat_map, filter_map}
use Rattle.bank_changes.specs.declared.members.Owner.TheVariants as owner
use Rattle.base_outputs.proofs.OutputLaws.{Putting}
use Rattle.zone_select.specs.Remaining.{zones_in}
use Rattle.show_zone_map.specs.Rectangles.{rectangle_at, rectangles_in}
use Rattle.show_zone_map.specs.Picture.{drawn}
use Rattle.show_zone_map.proofs.Rows.{from}
use Rattle.show_zone_map.proofs.map.put_instrument.Given as goal

-- the rectangles of the remaining zones are still to be written
abbrev pub invariant-loop-zone : goal.invariant-loop-zone
invariant-loop-zone g l =
    Putting g.W.Write.contents l.initial.output l.output
    (flat_map (drawn l.bank) (rectangles_in l.bank l.preset_zone l.area l.instrument))
    (flat_map (drawn l.bank)
    (filter_map (rectangle_at l.bank l.preset_zone l.area l.instrument)
    (from l.zone (zones_in l.bank (owner.Inst l.instrument)))))
