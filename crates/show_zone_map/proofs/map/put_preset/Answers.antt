use Rattle.std.proofs.Common.{◌<◌, ◌≤◌, arith, ap, sym}
use Rattle.std.specs.List.{flat_map}
use Rattle.bank_changes.specs.declared.members.Owner.TheVariants as owner
use Rattle.base_outputs.proofs.OutputLaws.{puts_as, puts_nothing, putting_from, putting_step, putting_last}
use Rattle.zone_select.specs.Remaining.{zones_in}
use Rattle.show_zone_map.specs.Rectangles.{rectangles, rectangles_of_zone}
use Rattle.show_zone_map.specs.Picture.{drawn}
use Rattle.show_zone_map.proofs.Rows.{all_from, row_on, row_over}
use Rattle.show_zone_map.proofs.map.put_preset.Goals as goal

pub loop-zone-init : goal.loop-zone-init
unfolding rectangles
loop-zone-init g c =
    let b = c.args.bank.now in
    putting_from _ _
    (ap (λ ks. flat_map (drawn b) (flat_map (rectangles_of_zone b c.args.preset) ks))
    (all_from (zones_in b (owner.Preset c.args.preset))))

pub loop-zone-preserved : goal.loop-zone-preserved
loop-zone-preserved g c =
    let b = c.args.bank.now in
    let test = c.loop-zone-test.true in
    let end = c.zones_in-zone-end.ensures.count in
    let lt : c.loop-zone.zone < zones_in b (owner.Preset c.args.preset) = omega (arith, test, end) in
    putting_step _ _ c.loop-zone.invariant
    (row_on (drawn b) (rectangles_of_zone b c.args.preset) c.loop-zone.zone _ lt) c.put_preset_zone.ensures

pub returns : goal.returns
returns g c =
    let b = c.args.bank.now in
    let test = c.loop-zone-test.false in
    let end = c.zones_in-zone-end.ensures.count in
    let le : zones_in b (owner.Preset c.args.preset) ≤ c.loop-zone.zone = omega (arith, test, end) in
    putting_last c.loop-zone.invariant
    (puts_as _ _ (sym (row_over (drawn b) (rectangles_of_zone b c.args.preset) c.loop-zone.zone _ le))
    (puts_nothing _))
