use Rattle.generators.proofs.Maps.{from_sorted-nil}
use Rattle.generators.proofs.gen_map.GenMap.new.Goals as goal

pub returns : goal.returns
returns c = from_sorted-nil c.new.result.items c.new.ensures.items
