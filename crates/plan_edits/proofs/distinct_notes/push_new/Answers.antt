use Rattle.std.proofs.Common.{◌≡◌, true, subst}
use Rattle.plan_edits.specs.Playing.{is_among}
use Rattle.plan_edits.proofs.TimeLaws.{is_there, is_pushed}
use Rattle.plan_edits.proofs.distinct_notes.push_new.Goals as goal

pub returns-then-is_last : goal.returns-then-is_last
returns-then-is_last c =
    is_there c.args.distinct.now.items c.args.note.now
    (subst (λ xs. is_among xs c.args.note.now ≡ true) c.as_slice.ensures.value (c.is_last.ensures c.if-is_last.true))

pub returns : goal.returns
returns c = is_pushed c.args.distinct.now.items c.push.new.self.items c.args.note.now c.in_ok-push.ensures.items
