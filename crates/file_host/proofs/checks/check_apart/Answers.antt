use Rattle.file_host.proofs.CheckLaws.{one_is_rejected}
use Rattle.file_host.proofs.checks.check_apart.Goals as goal

pub returns-then-branch-clause-checked : goal.returns-then-branch-clause-checked
returns-then-branch-clause-checked g c =
    let found = rw c.loop-other.invariant.stays at c.in_ok-is_one_file.ensures.found in
    one_is_rejected _ (g.H.Host.world c.args.host.now) c.args.output.now (λ other. other.now) c.args.others.now
    c.loop-other.other-index _ c.in_ok-is_one_file.field-0 c.loop-other-test.true found c.if-branch.true
