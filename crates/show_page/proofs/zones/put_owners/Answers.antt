use Rattle.std.proofs.Common.{length, ◌≤◌, ◌<◌, arith, sym}
use Rattle.std.proofs.lemmas.Option.{get_or_from_slice_get}
use Rattle.base_numbered_lists.proofs.Lists.{slice_get-found}
use Rattle.base_outputs.proofs.OutputLaws.{putting_member}
use Rattle.show_page.specs.Zones.{owner_text}
use Rattle.show_page.proofs.Loops.{putting_all}
use Rattle.show_page.proofs.zones.put_owners.Goals as goal

pub loop-number-preserved : goal.loop-number-preserved
loop-number-preserved g c =
    let end = c.len-number-end.ensures in
    let test = c.loop-number-test.true in
    let there : c.loop-number.number < length c.args.owners.now = omega (arith, end, test) in
    let (x, is) = slice_get-found c.args.owners.now c.loop-number.number there in
    let same = get_or_from_slice_get c.args.owners.now c.loop-number.number x x is in
    putting_member (owner_text g.H.ShownHead.text) c.args.owners.now c.loop-number.number x c.loop-number.invariant
    there (rw (is, sym same) at c.put_owner.ensures)

pub returns : goal.returns
returns g c =
    let end = c.len-number-end.ensures in
    let test = c.loop-number-test.false in
    let over : length c.args.owners.now ≤ c.loop-number.number = omega (arith, end, test) in
    putting_all (owner_text g.H.ShownHead.text) c.args.owners.now c.loop-number.number c.loop-number.invariant over
