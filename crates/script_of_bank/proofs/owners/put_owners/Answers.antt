use Rattle.std.proofs.Common.{length, drop, ◌<◌, ◌+◌, arith, sym}
use Rattle.std.proofs.lemmas.Option.{get_or_from_slice_get}
use Rattle.base_numbered_lists.proofs.Lists.{slice_get-found}
use Rattle.base_outputs.proofs.OutputLaws.{putting_step}
use Rattle.script_of_bank.specs.Lines.{owner_line, owner_lines}
use Rattle.script_of_bank.proofs.TextLaws.{owner_lines_next}
use Rattle.script_of_bank.proofs.owners.put_owners.Goals as goal

pub loop-number-preserved : goal.loop-number-preserved
loop-number-preserved g c =
    let end = c.len-number-end.ensures in
    let test = c.loop-number-test.true in
    let there : c.loop-number.number < length c.args.owners.now = omega (arith, end, test) in
    let (x, is) = slice_get-found c.args.owners.now c.loop-number.number there in
    let word = g.H.AddedHead.word in
    let operands = g.H.AddedHead.operands in
    let n = c.loop-number.number in
    putting_step (owner_line word operands n x) (owner_lines word operands (n + 1) (drop (n + 1) c.args.owners.now))
    c.loop-number.invariant
    (owner_lines_next word operands c.args.owners.now n x there
    (sym (get_or_from_slice_get c.args.owners.now n x x is)))
    (rw is at c.put_owner.ensures)
