use Rattle.std.proofs.Common.{◌≡◌, length, rules}
use Rattle.std.proofs.lemmas.Bool.Decides.{Decides-eqb}
use Rattle.std.proofs.lemmas.Slice.Eq.{slice_eq-Decides}
use Rattle.bank_equality.proofs.Reading.{same_at_end}
use Rattle.bank_equality.proofs.points.same_bytes.Goals as goal

pub returns : goal.returns
returns c =
    let left = c.loop-left.left in
    let right = c.loop-left.right in
    let no_left : length left.others.now ≡ 0 = search rules in
    let no_right : length right.others.now ≡ 0 = search rules in
    same_at_end left.first.now right.first.now _ _ left.others.now right.others.now c.eq.result no_left no_right
    c.loop-left.invariant
    (slice_eq-Decides Decides-eqb left.first.now right.first.now c.eq.result c.eq.ensures)
