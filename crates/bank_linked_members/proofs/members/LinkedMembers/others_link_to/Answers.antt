use Rattle.std.proofs.Common.{◌≡◌, ◌≤◌, ◌∙◌, false, length, remove, slice_get, subst, sym, true, arith}
use Rattle.std.specs.Prelude.{IfSome}
use Rattle.std.specs.List.{list_any}
use Rattle.bank_linked_members.proofs.Spans.{one_other, none_but}
use Rattle.bank_linked_members.proofs.members.LinkedMembers.others_link_to.Goals as goal

pub returns-then-is_other_link : goal.returns-then-is_other_link
returns-then-is_other_link g c =
    let p = g.T.Linked.links_to c.args.number in
    let members = c.as_slice-members.result.now in
    let is : members ≡ c.args.self.now = c.as_slice-members.ensures ∙ c.self.view_is in
    let yes = c.is_other_link.ensures.yes c.if-is_other_link.true in
    let known = c.link_span-span.ensures in
    let within = subst (λ xs. c.link_span-span.result.end ≤ length xs) (sym is) known.within in
    let turn = c.loop-i-test.true in
    sym
    (subst (λ xs. list_any p (remove xs c.args.number) ≡ true) is
    (one_other p members c.args.number c.loop-i.i yes.0 (omega arith) yes.1))

pub returns : goal.returns
returns g c =
    let p = g.T.Linked.links_to c.args.number in
    let span = c.link_span-span in
    let double_ended = c.loop-i-test.false in
    let is = c.as_slice-members.ensures ∙ c.self.view_is in
    sym
    (none_but g.T.Linked.has_link p c.args.self.now c.args.number span.result span.ensures
    (g.met.T.Linked.links_nowhere c.args.number)
    (λ i start end ne. subst (λ xs. IfSome (slice_get xs i) (λ x. p x ≡ false)) is
    (c.loop-i.invariant i start (omega arith) ne)))
