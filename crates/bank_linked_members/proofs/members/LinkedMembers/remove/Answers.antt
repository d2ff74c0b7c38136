use Rattle.std.proofs.Common.{◌≡◌, ◌<◌, ◌≤◌, ◌∙◌, length, remove, subst, sym, arith}
use Rattle.std.proofs.lemmas.List.Edits.{length-remove}
use Rattle.bank_linked_members.proofs.Spans.{IsLinkSpanOf, span_removed}
use Rattle.bank_linked_members.proofs.members.LinkedMembers.remove.Goals as goal

pub tightened-self-inside-requires : goal.tightened-self-inside-requires
tightened-self-inside-requires g c =
    let h = g.T.Linked.has_link in
    let list = c.self.inside.list in
    let span = c.link_span.result in
    let known = subst (IsLinkSpanOf h span) (sym c.self.view_is) c.link_span.ensures in
    let after = c.after_removal-span in
    let is : c.as_slice.result.now ≡ remove list c.args.i = c.as_slice.ensures ∙ c.remove-x.ensures.list in
    let there : c.args.i < length list = subst (λ xs. c.args.i < length xs) (sym c.self.view_is) c.requires in
    let size = length-remove list c.args.i there in
    let end = known.within in
    let within : after.result.end ≤ length (remove list c.args.i) =
    after.ensures.within (length (remove list c.args.i)) (omega arith) (omega arith) in
    subst (IsLinkSpanOf h after.result) (sym is)
    (span_removed h list c.args.i span after.result known there after.ensures.order within
    after.ensures.below after.ensures.above)
