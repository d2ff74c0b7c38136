use Rattle.std.proofs.Common.{◌≤◌, ◌∙◌, ◌++◌, ◌∷◌, [], length, subst, sym}
use Rattle.bank_linked_members.specs.Spans.{IsOutside, IsShifted}
use Rattle.bank_linked_members.proofs.Spans.{no_borrowed, span_pushed, IsLinkSpanOf}
use Rattle.bank_linked_members.proofs.members.LinkedMembers.push.Goals as goal

pub invariant_of-self-2 : goal.invariant_of-self-2
invariant_of-self-2 g c =
    let h = g.T.Linked.has_link in
    let list = c.self.inside.list in
    let span = c.link_span-span.result in
    let after = c.after_insertion-self-inside in
    let is = c.in_ok-push.ensures.ok in
    let known = subst (IsLinkSpanOf h span) (sym c.self.view_is) c.link_span-span.ensures in
    let within : after.result.end ≤ length (list ++ c.args.x ∷ []) =
    subst (λ xs. after.result.end ≤ length xs) is
    (subst (λ n. after.result.end ≤ n) c.len.ensures after.ensures.within) in
    no_borrowed h c.push.new.self after.result
    (subst (IsLinkSpanOf h after.result) (sym is)
    (span_pushed h list c.args.x span after.result known after.ensures.order within
    (subst (IsShifted span after.result) c.len-at.ensures after.ensures.outside)
    (λ o.
    sym c.has_link-has_link.ensures
    ∙ after.ensures.own (subst (IsOutside after.result) (sym c.len-at.ensures) o))))
