use Rattle.pcm_points.proofs.BlockLaws.{shifted_fit, word_lanes}
use Rattle.pcm_points.proofs.blocks.words.Goals as goal

pub overflow_cast-offsets : goal.overflow_cast-offsets
overflow_cast-offsets c = shifted_fit 8 c.args.numbers c.fits-numbers.0

pub returns : goal.returns
returns c = word_lanes 8 c.args.numbers c.fits-numbers.0 c.fits-numbers.1
