use Rattle.pcm_points.proofs.ChannelLaws.{sixteen_bits_stay}
use Rattle.pcm_points.proofs.laws.sixteen_bits_stay.Goals as goal

pub returns : goal.returns
returns c = sixteen_bits_stay
