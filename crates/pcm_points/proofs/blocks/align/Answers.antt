use Rattle.pcm_points.proofs.BlockLaws.{aligned_lanes}
use Rattle.pcm_points.proofs.blocks.align.Goals as goal

pub returns : goal.returns
returns c = aligned_lanes c.args.shift c.args.bias 8 c.args.windows c.fits-windows.0
