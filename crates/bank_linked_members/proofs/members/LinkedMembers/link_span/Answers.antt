use Rattle.std.proofs.Common.{◌≤◌, Some, subst, sym}
use Rattle.bank_linked_members.specs.Spans.{IsLinkSpanExcept}
use Rattle.bank_linked_members.proofs.Spans.{IsLinkSpanOf, span_of_linked}
use Rattle.bank_linked_members.proofs.members.LinkedMembers.link_span.Goals as goal

pub returns-then-has_link : goal.returns-then-has_link
returns-then-has_link g c =
    let h = g.T.Linked.has_link in
    let list = c.self.inside.list in
    let span = c.self.inside.span in
    let i = c.in-Some.i in
    let wider = c.with in
    let but : IsLinkSpanExcept h list span (Some i) =
    subst (IsLinkSpanExcept h list span) c.in-Some.is c.self.invariant in
    let within = wider.ensures.within (subst (λ n. span.end ≤ n) (sym c.len.ensures) c.self.invariant.within) in
    subst (IsLinkSpanOf h wider.result) c.self.view_is
    (span_of_linked h list span wider.result i but (subst (λ n. wider.result.end ≤ n) c.len.ensures within)
    wider.ensures.covers.0 wider.ensures.covers.1 wider.ensures.outside)
