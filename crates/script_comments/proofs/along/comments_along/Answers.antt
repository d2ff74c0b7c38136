use Rattle.std.proofs.Common.{drop, ◌+◌, subst, sym}
use Rattle.script_comments.proofs.AlongLaws.{going_start, going_step, going_end, next_accepted}
use Rattle.script_comments.proofs.MoveLaws.{Gathered, none_gathered, gathered_more, gathered_done, gathered_as, no_memory}
use Rattle.script_comments.proofs.along.comments_along.Goals.{in-Some+in_ok-gather-in-Some}
use Rattle.script_comments.proofs.along.comments_along.Goals.{in-None+in_ok-add_moves-in-None+in_ok-add_and_apply-in-None}
use Rattle.script_comments.proofs.along.comments_along.Goals as goal

pub loop-edit-init : goal.loop-edit-init
loop-edit-init c =
    none_gathered c.args.bank.now c.args.bank.now c.args.edits.now c.args.edits.now _ _
    (going_start c.args.bank.now c.args.edits.now _
    (record { bytes = c.new.ensures.items; lengths = c.new-2.ensures.items }))
    c.new-moves.ensures.items

pub returns-in_err-add_and_apply-in-None-clause-accepted : goal.returns-in_err-add_and_apply-in-None-clause-accepted
returns-in_err-add_and_apply-in-None-clause-accepted c a =
    let first = c.args.bank.now in
    let edits = c.args.edits.now in
    let i = c.loop-edit.edit-index in
    let going =
    gathered_done first c.loop-edit.bank c.add_moves.new.bank edits (drop i edits) c.loop-edit.comments
    c.add_moves.new.comments c.deref.result.now
    (subst (Gathered first c.loop-edit.bank edits (drop i edits) c.loop-edit.comments) (sym c.deref.ensures.value)
    c.loop-edit.invariant)
    c.in_ok-add_moves-in-None.ensures.added c.in_ok-add_moves-in-None.ensures.done in
    let none =
    next_accepted first c.add_moves.new.bank edits i c.edit-item.result c.add_moves.new.comments going
    c.loop-edit-test.true c.edit-item.is a in
    no_memory c.from_residual-in_err-add_and_apply-in-None.result c.in_err-add_and_apply-in-None.field-0.0
    c.from_residual-in_err-add_and_apply-in-None.ensures.1 (c.in_err-add_and_apply-in-None.ensures.refused none)

pub loop-edit-preserved : goal.loop-edit-preserved
loop-edit-preserved c =
    let first = c.args.bank.now in
    let edits = c.args.edits.now in
    let i = c.loop-edit.edit-index in
    let e = c.edit-item.result in
    let kept = c.loop-edit.comments in
    let rest = drop (i + 1) edits in
    elim c.match-move_of.branch [
      | in-Some+in_ok-gather-in-Some w ↦
          gathered_as w.bank-is w.comments-is (λ k. (w.moves-is k).items)
          (gathered_more first c.loop-edit.bank edits i e kept c.loop-edit.moves.items w.gather.new.moves.items
          w.in-Some.change c.loop-edit.invariant c.loop-edit-test.true c.edit-item.is w.in-Some.ensures
          w.in_ok-gather-in-Some.ensures.gathered)
      | in-None+in_ok-add_moves-in-None+in_ok-add_and_apply-in-None w ↦
          let going =
          gathered_done first c.loop-edit.bank w.add_moves.new.bank edits (drop i edits) kept w.add_moves.new.comments
          w.deref.result.now
          (subst (Gathered first c.loop-edit.bank edits (drop i edits) kept) (sym w.deref.ensures.value) c.loop-edit.invariant)
          w.in_ok-add_moves-in-None.ensures.added w.in_ok-add_moves-in-None.ensures.done in
          gathered_as w.bank-is w.comments-is (λ k. (w.moves-is k).items)
          (none_gathered first w.add_and_apply.new.bank edits rest w.add_and_apply.new.comments w.clear.new.self.items
          (going_step first w.add_moves.new.bank w.add_and_apply.new.bank edits i e w.add_moves.new.comments
          w.add_and_apply.new.comments going c.loop-edit-test.true c.edit-item.is
          w.in_ok-add_and_apply-in-None.ensures.added w.in_ok-add_and_apply-in-None.ensures.done)
          w.clear.ensures.items)
    ]

pub returns-clause-comments : goal.returns-clause-comments
returns-clause-comments c =
    let first = c.args.bank.now in
    let edits = c.args.edits.now in
    let i = c.loop-edit.edit-index in
    (going_end first c.add_moves-2.new.bank edits i c.add_moves-2.new.comments
    (gathered_done first c.loop-edit.bank c.add_moves-2.new.bank edits (drop i edits) c.loop-edit.comments
    c.add_moves-2.new.comments c.deref-2.result.now
    (subst (Gathered first c.loop-edit.bank edits (drop i edits) c.loop-edit.comments) (sym c.deref-2.ensures.value)
    c.loop-edit.invariant)
    c.in_ok-add_moves.ensures.added c.in_ok-add_moves.ensures.done)
    c.loop-edit-test.false).0
