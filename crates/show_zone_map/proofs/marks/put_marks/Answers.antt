use Rattle.std.proofs.Common.{[], drop, ap, sym}
use Rattle.std.specs.List.{flat_map}
use Rattle.std.proofs.lemmas.List.{drop_all}
use Rattle.base_outputs.proofs.OutputLaws.{puts_as, puts_nothing, putting_member, putting_last}
use Rattle.show_zone_map.specs.Marks.{mark_text}
use Rattle.show_zone_map.proofs.marks.put_marks.Goals as goal

pub loop-mark-preserved : goal.loop-mark-preserved
loop-mark-preserved g c =
    putting_member mark_text c.args.marks.now c.loop-mark.mark-index _ c.loop-mark.invariant c.loop-mark-test.true
    (puts_as _ _ (ap mark_text c.mark-item.is) c.put_mark.ensures)

pub returns : goal.returns
returns g c =
    let end = ap (flat_map mark_text) (drop_all c.loop-mark.mark-index c.args.marks.now c.loop-mark-test.false) in
    putting_last c.loop-mark.invariant
    (puts_as [] (flat_map mark_text (drop c.loop-mark.mark-index c.args.marks.now)) (sym end) (puts_nothing _))
