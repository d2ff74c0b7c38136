use Rattle.pcm_points.proofs.DitherLaws.{dither_is_near}
use Rattle.pcm_points.proofs.laws.dither_is_near.Goals as goal

pub returns : goal.returns
returns c = dither_is_near
