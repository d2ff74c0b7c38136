use Rattle.std.proofs.Common.{◌≡◌, true}
use Rattle.std.specs.Result.{is_ok}
use Rattle.bank_edits.proofs.GroupLaws.{one_more}
use Rattle.bank_edits.proofs.groups.change_all.Goals as goal

pub loop-index-preserved : goal.loop-index-preserved
loop-index-preserved c =
    let is_accepted : is_ok c.push.result ≡ true = c.if-is_err.ensures.negation in
    one_more c.loop-index.index c.args.bank.now c.loop-index.bank c.change_by_copy.new.bank c.args.steps.now
    c.loop-index.inverses.items c.index-steps-index.result c.in_ok-inverse.inverse
    c.push.new.self.items c.loop-index.invariant c.loop-index-test.true c.index-steps-index.is
    c.in_ok-inverse.ensures (rw is_accepted at c.push.ensures.items)
