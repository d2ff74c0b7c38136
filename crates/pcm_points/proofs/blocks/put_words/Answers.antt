use Rattle.std.proofs.Common.{rules}
use Rattle.pcm_points.proofs.BlockLaws.{bytes_of_lanes}
use Rattle.pcm_points.proofs.blocks.put_words.Goals as goal

pub returns-clause-items : goal.returns-clause-items
returns-clause-items c =
    let bytes = bytes_of_lanes 8 c.args.words c.fits-words.0 c.fits-words.1 in
    search (rules, bytes)
