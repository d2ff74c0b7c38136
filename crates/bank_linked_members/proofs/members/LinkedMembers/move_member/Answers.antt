use Rattle.std.proofs.Common.{◌<◌, ◌≤◌, ◌∙◌, ◌-◌, length, remove, subst, sym, arith}
use Rattle.std.proofs.lemmas.List.Edits.{length-remove}
use Rattle.bank_linked_members.proofs.Spans.{IsLinkSpanOf, span_moved}
use Rattle.bank_linked_members.proofs.members.LinkedMembers.move_member.Goals as goal

pub after_insertion-span-requires-clause-fits : goal.after_insertion-span-requires-clause-fits
after_insertion-span-requires-clause-fits g c =
    let count = length c.args.self.now in
    let from = c.requires.from in
    let end = c.link_span.ensures.within in
    let less = c.after_removal-others.ensures.within (count - 1) (omega arith) (omega arith) in
    subst (λ n. c.after_removal-others.result.end < n) (sym c.len.ensures)
    (subst (λ xs. c.after_removal-others.result.end < length xs) (sym c.self.view_is) (omega arith))

pub tightened-self-inside-requires : goal.tightened-self-inside-requires
tightened-self-inside-requires g c =
    let h = g.T.Linked.has_link in
    let list = c.self.inside.list in
    let known = subst (IsLinkSpanOf h c.link_span.result) (sym c.self.view_is) c.link_span.ensures in
    let others = c.after_removal-others in
    let after = c.after_insertion-span in
    let there : c.args.from < length list =
    subst (λ xs. c.args.from < length xs) (sym c.self.view_is) c.requires.from in
    let place : c.args.to < length list = subst (λ xs. c.args.to < length xs) (sym c.self.view_is) c.requires.to in
    let size = length-remove list c.args.from there in
    let end = known.within in
    let fewer : others.result.end ≤ length (remove list c.args.from) =
    others.ensures.within (length (remove list c.args.from)) (omega arith) (omega arith) in
    subst (IsLinkSpanOf h after.result) (sym (c.as_slice.ensures ∙ c.move_member.ensures))
    (span_moved h list c.args.from c.args.to c.member.result.now c.link_span.result others.result after.result known
    there place c.member.ensures others.ensures.order fewer others.ensures.below others.ensures.above
    after.ensures.order (subst (λ n. after.result.end ≤ n) c.len.ensures after.ensures.within) after.ensures.outside
    (λ o. sym c.has_link-has_link.ensures ∙ after.ensures.own o))
