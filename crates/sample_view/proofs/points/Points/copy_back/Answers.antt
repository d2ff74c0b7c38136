use Rattle.std.proofs.Common.{◌≡◌, ◌≤◌, ◌+◌, ◌-◌, arith, drop, length, sym}
use Rattle.std.specs.Prelude.{slice_range}
use Rattle.sample_view.specs.Pieces.{joined}
use Rattle.sample_view.proofs.CutLaws.{in_trailing, back_copied, trailing_is}
use Rattle.sample_view.proofs.points.Points.copy_back.Goals as goal

pub copy_of-requires-clause-inside : goal.copy_of-requires-clause-inside
copy_of-requires-clause-inside c =
    let found = c.cut_before_last-cut in
    let ps = c.pieces-pieces.result.now in
    let within : c.args.count ≤ length (joined ps) = rw c.pieces-pieces.ensures.points c.requires in
    rw (trailing_is ps found.result.piece)
    (omega (arith, in_trailing ps c.args.count found.result.piece found.result.position found.ensures.cut within))

pub returns : goal.returns
returns c =
    let found = c.cut_before_last-cut in
    let ps = c.pieces-pieces.result.now in
    let k = found.result.piece in
    let at = found.result.position in
    let within : c.args.count ≤ length (joined ps) = rw c.pieces-pieces.ensures.points c.requires in
    let copied : drop (length c.args.self.now - c.args.count) c.args.self.now
    ≡ slice_range (joined (slice_range ps k (length ps))) at (at + c.args.count) =
    rw (← c.pieces-pieces.ensures.points, trailing_is ps k)
    (sym (back_copied ps c.args.count k at found.ensures.cut within)) in
    rw copied c.copy_of.ensures
