use Rattle.zone_select.specs.Alike.{AreAlike}
use Rattle.zone_select.proofs.Correspond.{alike_by_same}
use Rattle.zone_select.proofs.NeutralLaws as laws
use Rattle.zone_select.proofs.neutral.instruments_keep_sounding.Goals as goal

pub returns-clause-added : goal.returns-clause-added
returns-clause-added c = laws.instrument_added_alike AreAlike alike_by_same

pub returns-clause-removed : goal.returns-clause-removed
returns-clause-removed c = laws.instrument_removed_alike AreAlike alike_by_same

pub returns-clause-moved : goal.returns-clause-moved
returns-clause-moved c = laws.instrument_moved_alike AreAlike alike_by_same

pub returns-clause-renamed : goal.returns-clause-renamed
returns-clause-renamed c = laws.instrument_renamed_alike AreAlike alike_by_same
