use Rattle.sample_view.proofs.PieceLaws.{joined_bytes_is}
use Rattle.sample_view.proofs.points.Points.pieces.Goals as goal

pub returns-clause-bytes : goal.returns-clause-bytes
returns-clause-bytes c = rw (c.as_slice.ensures, ← c.self.view_is) (joined_bytes_is _ c.self.invariant.0)
