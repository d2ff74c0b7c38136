use Rattle.sample_view.proofs.PieceLaws.{AreWords-joined}
use Rattle.sample_view.proofs.points.Points.len.Goals as goal

pub returns-clause-fits : goal.returns-clause-fits
returns-clause-fits c = rw (← c.self.view_is) (AreWords-joined _ c.self.invariant.0)
