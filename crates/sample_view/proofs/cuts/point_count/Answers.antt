use Rattle.std.proofs.Common.{sym}
use Rattle.sample_view.proofs.WordLaws.{length-words}
use Rattle.sample_view.proofs.cuts.point_count.Goals as goal

pub returns : goal.returns
returns c = sym (length-words c.args.bytes.now)
