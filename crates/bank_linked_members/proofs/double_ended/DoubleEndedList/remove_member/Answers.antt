use Rattle.std.proofs.Common.{◌≡◌, ◌∙◌, ◌+◌, ap, drop, remove, refl, rules}
use Rattle.bank_linked_members.proofs.Parts.{written_after, borrowed_after, drop-remove, found_after}
use Rattle.bank_linked_members.proofs.double_ended.DoubleEndedList.remove_member.Goals as goal

pub returns-then-i-len-clause-list : goal.returns-then-i-len-clause-list
returns-then-i-len-clause-list g c =
    let fields = c.self.inside in
    let slots = c.deref_mut in
    let to_front = c.take_to_front-x in
    written_after fields.slots slots.result.now to_front.new.members fields.blanks 1 slots.ensures.value
    slots.ensures.len c.self.invariant to_front.ensures.long
    ∙
    (to_front.ensures.rest
    ∙ ap (λ xs. remove xs c.args.i)
    (borrowed_after fields.blanks slots.result.now fields.slots.items c.args.self.now slots.ensures.value
    c.self.view_is))

pub returns-clause-value : goal.returns-clause-value
returns-clause-value g c =
    found_after c.self.inside.blanks c.self.inside.slots.items c.args.self.now c.args.i c.remove.result
    c.self.view_is c.self.invariant c.requires c.remove.ensures.value

pub returns-clause-list : goal.returns-clause-list
returns-clause-list g c =
    let blanks = c.self.inside.blanks in
    let items = c.self.inside.slots.items in
    let gone : c.remove.new.self.items ≡ remove items (blanks + c.args.i) = search rules in
    ap (drop blanks) gone
    ∙
    (drop-remove blanks items c.args.i (blanks + c.args.i) refl c.self.invariant
    ∙ ap (λ xs. remove xs c.args.i) c.self.view_is)
