use Rattle.std.proofs.Common.{length, drop, ◌<◌, ◌+◌, arith, sym}
use Rattle.std.specs.Option.{option_copied}
use Rattle.std.proofs.lemmas.Option.{get_or_from_slice_get}
use Rattle.base_numbered_lists.proofs.Lists.{slice_get-found}
use Rattle.base_outputs.proofs.OutputLaws.{putting_step}
use Rattle.show_listing.specs.Listing.{lines_from}
use Rattle.show_listing.specs.Details.{owner_lines}
use Rattle.show_listing.proofs.ListLaws.{lines_at}
use Rattle.show_listing.proofs.listing.put_owners.Goals as goal

pub loop-number-preserved : goal.loop-number-preserved
loop-number-preserved g c =
    let end = c.len-number-end.ensures in
    let test = c.loop-number-test.true in
    let there : c.loop-number.number < length c.args.owners.now = omega (arith, end, test) in
    let (x, is) = slice_get-found c.args.owners.now c.loop-number.number there in
    let lines = owner_lines g.H.ListedHead.line g.H.ListedHead.word (option_copied c.args.uses) c.args.zones in
    let n = c.loop-number.number in
    putting_step (lines n x) (lines_from lines (n + 1) (drop (n + 1) c.args.owners.now)) c.loop-number.invariant
    (lines_at lines c.args.owners.now n x there (sym (get_or_from_slice_get c.args.owners.now n x x is)))
    (rw is at c.put_owner.ensures)
