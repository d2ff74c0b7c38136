use Rattle.sf_reader.proofs.BagAppends.{terminals}
use Rattle.sf_reader.proofs.records.RecordsSoFar.ended.Goals as goal

pub returns : goal.returns
returns c =
    terminals c.args.self c.push.new.self.items c.push-2.new.self.items c.in_ok-push.ensures.items
    c.in_ok-push-2.ensures.items
