use Rattle.std.proofs.Common.{◌≡◌, length, arith}
use Rattle.voices.specs.Position.{position}
use Rattle.voices.proofs.OverLaws.{position_sounds}
use Rattle.voices.proofs.frames.point_at_frame.Goals as goal

pub point_at_position-requires-clause-near : goal.point_at_position-requires-clause-near
point_at_position-requires-clause-near c =
    let e : c.args.x ≡ position c.args.v.now c.args.t = c.requires.here in
    let h = position_sounds (length c.args.points.now) c.args.v.now c.args.t c.requires.playable c.requires.sounds in
    omega (arith, e, h)
