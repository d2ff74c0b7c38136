use Rattle.std.proofs.Common.{[], drop, ap, sym}
use Rattle.std.specs.List.{flat_map}
use Rattle.std.proofs.lemmas.List.{drop_all}
use Rattle.base_outputs.proofs.OutputLaws.{puts_as, puts_nothing, putting_member, putting_last}
use Rattle.show_zone_map.specs.Marks.{shown}
use Rattle.show_zone_map.proofs.marks.put_name.Goals as goal

pub loop-byte-preserved : goal.loop-byte-preserved
loop-byte-preserved g c =
    putting_member shown c.args.name.now c.loop-byte.byte-index 0 c.loop-byte.invariant c.loop-byte-test.true
    c.put_shown.ensures

pub returns : goal.returns
returns g c =
    let end = ap (flat_map shown) (drop_all c.loop-byte.byte-index c.args.name.now c.loop-byte-test.false) in
    putting_last c.loop-byte.invariant
    (puts_as [] (flat_map shown (drop c.loop-byte.byte-index c.args.name.now)) (sym end) (puts_nothing _))
