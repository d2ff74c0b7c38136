use Rattle.std.proofs.Common.{◌<◌, ◌≤◌, arith, ap, map, string_bytes, sym}
use Rattle.std.specs.List.{flat_map}
use Rattle.bank_changes.specs.declared.members.Owner.TheVariants as owner
use Rattle.base_outputs.proofs.OutputLaws.{puts_as, puts_nothing, putting_from, putting_step, putting_last}
use Rattle.zone_select.specs.Remaining.{zones_in}
use Rattle.kit_tables.specs.RowTexts.{line_of, table_text}
use Rattle.show_zone_map.proofs.Rows.{all_from, row_on, row_over}
use Rattle.kit_of_instrument.specs.KitLines.{zone_lines}
use Rattle.kit_of_instrument.proofs.table.put_zones.Goals as goal

pub loop-zone-init : goal.loop-zone-init
loop-zone-init g c =
    let b = c.args.bank.now in
    let files = map string_bytes c.args.files.now in
    putting_from _ _
    (ap (λ ks. table_text (flat_map (zone_lines files b c.args.instrument) ks))
    (all_from (zones_in b (owner.Inst c.args.instrument))))

pub loop-zone-preserved : goal.loop-zone-preserved
loop-zone-preserved g c =
    let b = c.args.bank.now in
    let files = map string_bytes c.args.files.now in
    let test = c.loop-zone-test.true in
    let end = c.zones_in-zone-end.ensures.count in
    let lt : c.loop-zone.zone < zones_in b (owner.Inst c.args.instrument) = omega (arith, test, end) in
    putting_step _ _ c.loop-zone.invariant (row_on line_of (zone_lines files b c.args.instrument) c.loop-zone.zone _ lt)
    c.put_zone.ensures

pub returns : goal.returns
returns g c =
    let b = c.args.bank.now in
    let files = map string_bytes c.args.files.now in
    let test = c.loop-zone-test.false in
    let end = c.zones_in-zone-end.ensures.count in
    let le : zones_in b (owner.Inst c.args.instrument) ≤ c.loop-zone.zone = omega (arith, test, end) in
    putting_last c.loop-zone.invariant
    (puts_as _ _ (sym (row_over line_of (zone_lines files b c.args.instrument) c.loop-zone.zone _ le)) (puts_nothing _))
