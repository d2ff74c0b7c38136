use Rattle.std.proofs.Common.{◌-◌}
use Rattle.bank_linked_members.specs.Spans.{IsLinkSpan}
use Rattle.bank_linked_members.proofs.span.first_linked.Given as goal

abbrev pub invariant-loop-start : goal.invariant-loop-start
invariant-loop-start g l = IsLinkSpan g.T.Linked.has_link l.members (record { start = l.start; end = l.span.end })

abbrev pub decreases-loop-start : goal.decreases-loop-start
decreases-loop-start g l = l.span.end - l.start
