use Rattle.zone_select.specs.Pairs.{listed}
use Rattle.zone_select.specs.Alike.{AreAlike}
use Rattle.zone_select.proofs.Correspond.{alike}
use Rattle.zone_select.proofs.NeutralLaws as laws
use Rattle.zone_select.proofs.neutral.zones_keep_sounding.Goals as goal

pub returns-clause-moved : goal.returns-clause-moved
returns-clause-moved c = laws.zone_moved_alike listed AreAlike alike

pub returns-clause-split : goal.returns-clause-split
returns-clause-split c = laws.zone_split_alike listed AreAlike alike

pub returns-clause-joined : goal.returns-clause-joined
returns-clause-joined c = laws.zone_joined_alike listed AreAlike alike
