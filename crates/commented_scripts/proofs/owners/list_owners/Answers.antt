use Rattle.std.proofs.Common.{length, drop, ◌<◌, ◌≤◌, ◌+◌, arith, sym}
use Rattle.std.proofs.lemmas.Option.{get_or_from_slice_get}
use Rattle.base_numbered_lists.proofs.Lists.{slice_get-found}
use Rattle.script_of_bank.specs.BankEdits.{in_turn}
use Rattle.commented_scripts.proofs.ListingLaws.{listing_start, listing_step, listing_end, turns_next, turns_over}
use Rattle.commented_scripts.proofs.owners.list_owners.Goals as goal

pub loop-number-init : goal.loop-number-init
loop-number-init g c = listing_start _ _

pub loop-number-preserved : goal.loop-number-preserved
loop-number-preserved g c =
    let end = c.len-number-end.ensures in
    let test = c.loop-number-test.true in
    let there : c.loop-number.number < length c.args.owners.now = omega (arith, end, test) in
    let (x, is) = slice_get-found c.args.owners.now c.loop-number.number there in
    let edits = g.H.AddedHead.edits in
    let n = c.loop-number.number in
    listing_step (edits n x)
    (in_turn edits (n + 1) (drop (n + 1) c.args.owners.now)) c.loop-number.invariant
    (turns_next edits c.args.owners.now n x there (sym (get_or_from_slice_get c.args.owners.now n x x is)))
    (rw is at c.in_ok-list_owner.ensures)

pub returns : goal.returns
returns g c =
    let end = c.len-number-end.ensures in
    let test = c.loop-number-test.false in
    let over : length c.args.owners.now ≤ c.loop-number.number = omega (arith, end, test) in
    listing_end c.loop-number.invariant (turns_over g.H.AddedHead.edits c.args.owners.now c.loop-number.number over)
