use Rattle.zone_select.specs.Alike.{AreAlike}
use Rattle.zone_select.proofs.Correspond.{alike_by_same}
use Rattle.zone_select.proofs.NeutralLaws as laws
use Rattle.zone_select.proofs.neutral.texts_keep_sounding.Goals as goal

pub returns : goal.returns
returns c = record { set = laws.info_set_alike AreAlike alike_by_same }
