use Rattle.std.proofs.Common.{map, string_bytes}
use Rattle.std.specs.List.{flat_map}
use Rattle.bank_changes.specs.declared.members.Owner.TheVariants as owner
use Rattle.base_outputs.proofs.OutputLaws.{Putting}
use Rattle.zone_select.specs.Remaining.{zones_in}
use Rattle.show_zone_map.specs.Rectangles.{zone_numbers}
use Rattle.show_zone_map.proofs.Rows.{from}
use Rattle.kit_tables.specs.RowTexts.{table_text}
use Rattle.kit_of_instrument.specs.KitLines.{zone_lines}
use Rattle.kit_of_instrument.proofs.table.put_zones.Given as goal

-- the lines of the remaining zones are still to be written
abbrev pub invariant-loop-zone : goal.invariant-loop-zone
invariant-loop-zone g l =
    Putting g.W.Write.contents l.initial.output l.output
    (table_text (flat_map (zone_lines (map string_bytes l.files) l.bank l.instrument) (zone_numbers l.bank (owner.Inst l.instrument))))
    (table_text
    (flat_map (zone_lines (map string_bytes l.files) l.bank l.instrument) (from l.zone (zones_in l.bank (owner.Inst l.instrument)))))
