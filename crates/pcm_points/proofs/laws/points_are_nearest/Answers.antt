use Rattle.pcm_points.proofs.NearestLaws.{points_are_nearest}
use Rattle.pcm_points.proofs.laws.points_are_nearest.Goals as goal

pub returns : goal.returns
returns c = points_are_nearest
