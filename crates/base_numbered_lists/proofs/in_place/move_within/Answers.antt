use Rattle.std.proofs.Common.{◌≡◌, ◌+◌, ◌-◌, suc, length-take, length-drop, arith}
use Rattle.base_numbered_lists.proofs.Lists.{slice_get-found}
use Rattle.base_numbered_lists.proofs.Rotated.{first_to_last, last_to_first}
use Rattle.base_numbered_lists.proofs.in_place.move_within.Goals as goal

pub returns-then-from-to : goal.returns-then-from-to
returns-then-from-to g c =
    let (x, e) = slice_get-found c.args.members.now c.args.from c.requires.from in
    let size : c.args.to + 1 - c.args.from ≡ suc (c.args.to - c.args.from) = omega arith in
    rw c.rotate_left.ensures.after
    (first_to_last c.args.members.now c.args.from c.args.to (c.args.to + 1 - c.args.from) x e c.if-from-to.true
    size)

pub returns-else-from-to : goal.returns-else-from-to
returns-else-from-to g c =
    let (x, e) = slice_get-found c.args.members.now c.args.from c.requires.from in
    let size : c.args.from + 1 - c.args.to ≡ suc (c.args.from - c.args.to) = omega arith in
    rw c.rotate_right.ensures.after
    (last_to_first c.args.members.now c.args.from c.args.to (c.args.from + 1 - c.args.to) _ x e (omega arith)
    size (simp (length-take, length-drop) (omega arith)))
