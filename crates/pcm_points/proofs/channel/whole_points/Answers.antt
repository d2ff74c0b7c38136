use Rattle.std.proofs.Common.{◌∙◌}
use Rattle.pcm_points.proofs.ChannelLaws.{whole_bytes}
use Rattle.pcm_points.proofs.channel.whole_points.Goals as goal

pub returns : goal.returns
returns c = c.in_ok-from_slice.ensures.items ∙ whole_bytes c.args.bytes.now (λ k. (c.type_inv.bytes k).fits)
