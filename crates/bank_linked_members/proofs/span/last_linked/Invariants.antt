use Rattle.bank_linked_members.specs.Spans.{IsLinkSpan}
use Rattle.bank_linked_members.proofs.span.last_linked.Given as goal

abbrev pub invariant-loop-end : goal.invariant-loop-end
invariant-loop-end g l = IsLinkSpan g.T.Linked.has_link l.members (record { start = l.span.start; end = l.end })

abbrev pub decreases-loop-end : goal.decreases-loop-end
decreases-loop-end g l = l.end
