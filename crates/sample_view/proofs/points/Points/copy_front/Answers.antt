use Rattle.std.proofs.Common.{◌≡◌, ◌+◌, sym, take}
use Rattle.std.specs.Prelude.{slice_range}
use Rattle.sample_view.specs.Pieces.{joined}
use Rattle.sample_view.proofs.CutLaws.{in_leading, front_copied}
use Rattle.sample_view.proofs.points.Points.copy_front.Goals as goal

pub copy_of-requires-clause-inside : goal.copy_of-requires-clause-inside
copy_of-requires-clause-inside c = let found = c.cut_at-cut.ensures in in_leading _ _ _ _ found.cut found.inside

pub returns : goal.returns
returns c =
    let found = c.cut_at-cut in
    let ps = c.pieces-pieces.result.now in
    let n = found.result.piece + 1 in
    let copied : take c.args.count c.args.self.now ≡ slice_range (joined (take n ps)) 0 c.args.count =
    rw (← c.pieces-pieces.ensures.points)
    (sym (front_copied ps n c.args.count (in_leading _ _ _ _ found.ensures.cut found.ensures.inside))) in
    rw copied c.copy_of.ensures
