use Rattle.std.proofs.Common.{◌≡◌, ◌≤◌, ◌∙◌, ap, drop, insert, length, subst, sym}
use Rattle.bank_linked_members.proofs.Parts.{inserted_after}
use Rattle.bank_linked_members.proofs.double_ended.DoubleEndedList.insert.Goals as goal
use Rattle.bank_linked_members.proofs.double_ended.DoubleEndedList.insert.Goals.{then-i-len+else-self-ne0, else-i-len}

pub returns-then-self-ne0-clause-ok : goal.returns-then-self-ne0-clause-ok
returns-then-self-ne0-clause-ok g c =
    c.insert_over_blank.ensures.value
    ∙ ap (λ xs. insert xs c.args.i c.args.x) (c.self-then-i-len.view_is ∙ c.make_blanks.ensures)

pub returns-clause-ok : goal.returns-clause-ok
returns-clause-ok g c =
    let fields = c.self-2.inside in
    let same : c.if-i-len.self ≡ c.args.self.now = elim c.if-i-len.branch [
      | then-i-len+else-self-ne0 w ↦ w.self-is ∙ w.make_blanks.ensures
      | else-i-len w ↦ w.self-is
    ] in
    inserted_after c.try_reserve.new.self.items c.insert_within.new.vec.items fields.blanks c.args.i c.args.x
    c.args.self.now
    (subst (λ xs. fields.blanks ≤ length xs) (sym c.try_reserve.ensures.items) c.self-2.invariant)
    (ap (drop fields.blanks) c.try_reserve.ensures.items ∙ (c.self-2.view_is ∙ same))
    c.insert_within.ensures
