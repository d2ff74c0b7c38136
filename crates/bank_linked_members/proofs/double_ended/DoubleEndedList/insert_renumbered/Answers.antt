use Rattle.std.proofs.Common.{◌≡◌, ◌≤◌, ◌∙◌, ap, drop, insert, length, sym, subst}
use Rattle.base_numbered_lists.specs.Moved.{changed_within}
use Rattle.bank_linked_members.proofs.Parts.{inserted_after}
use Rattle.bank_linked_members.proofs.double_ended.DoubleEndedList.insert_renumbered.Goals as goal
use Rattle.bank_linked_members.proofs.double_ended.DoubleEndedList.insert_renumbered.Goals.{then-i-len+else-self-ne0, else-i-len}

pub returns-then-self-ne0-clause-ok : goal.returns-then-self-ne0-clause-ok
returns-then-self-ne0-clause-ok g c =
    let f = g.T.Renumber.with_new_numbers c.args.by in
    let span = c.args.span in
    c.insert_over_blank.ensures.value
    ∙ ap (λ xs. insert xs c.args.i c.args.x)
    (c.renumber_after_blanks.ensures.value
    ∙ ap (changed_within span.start span.end f) (c.self-then-i-len.view_is ∙ c.make_blanks.ensures))

pub returns-clause-ok : goal.returns-clause-ok
returns-clause-ok g c =
    let f = g.T.Renumber.with_new_numbers c.args.by in
    let fields = c.self-2.inside in
    let span = c.args.span in
    let same : c.if-i-len.self ≡ c.args.self.now = elim c.if-i-len.branch [
      | then-i-len+else-self-ne0 w ↦ w.self-is ∙ w.make_blanks.ensures
      | else-i-len w ↦ w.self-is
    ] in
    let changed = c.renumber_after_blanks-2 in
    let long = ap length c.try_reserve.ensures.items in
    inserted_after changed.new.slots.items c.insert_within.new.vec.items fields.blanks c.args.i c.args.x
    (changed_within span.start span.end f c.args.self.now)
    (subst (λ n. fields.blanks ≤ n) (sym (changed.ensures.long ∙ long)) c.self-2.invariant)
    (changed.ensures.value
    ∙ ap (changed_within span.start span.end f)
    (ap (drop fields.blanks) c.try_reserve.ensures.items ∙ (c.self-2.view_is ∙ same)))
    c.insert_within.ensures
