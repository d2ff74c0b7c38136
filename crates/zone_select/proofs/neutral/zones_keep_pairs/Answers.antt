use Rattle.zone_select.specs.Alike.{HavePairsAlike}
use Rattle.zone_select.proofs.Correspond.{one, pairs_alike}
use Rattle.zone_select.proofs.NeutralLaws as laws
use Rattle.zone_select.proofs.neutral.zones_keep_pairs.Goals as goal

pub returns-clause-moved : goal.returns-clause-moved
returns-clause-moved c = laws.zone_moved_alike one HavePairsAlike pairs_alike

pub returns-clause-split : goal.returns-clause-split
returns-clause-split c = laws.zone_split_alike one HavePairsAlike pairs_alike

pub returns-clause-joined : goal.returns-clause-joined
returns-clause-joined c = laws.zone_joined_alike one HavePairsAlike pairs_alike
