use Rattle.std.proofs.Common.{map, string_bytes, sym}
use Rattle.std.specs.List.{flat_map}
use Rattle.std.proofs.lemmas.List.Concat.{flat_map-append}
use Rattle.base_outputs.proofs.OutputLaws.{puts_as, puts_then}
use Rattle.bank_changes.specs.declared.members.Owner.TheVariants as owner
use Rattle.kit_tables.specs.RowTexts.{line_of}
use Rattle.show_zone_map.specs.Rectangles.{zone_numbers}
use Rattle.kit_of_instrument.specs.KitLines.{head_lines, kit_text, zone_lines}
use Rattle.kit_of_instrument.proofs.table.KitTableText.put.Goals as goal

pub returns : goal.returns
unfolding kit_text
returns g c =
    let table = c.args.self.now in
    let b = table.bank.now in
    let files = map string_bytes table.files.now in
    puts_as _ _
    (sym
    (flat_map-append line_of (head_lines b table.instrument)
    (flat_map (zone_lines files b table.instrument) (zone_numbers b (owner.Inst table.instrument)))))
    (puts_then _ _ c.put_head.ensures c.put_zones.ensures)
