use Rattle.zone_select.specs.Alike.{AreAlike}
use Rattle.zone_select.proofs.Correspond.{alike_by_same}
use Rattle.zone_select.proofs.NeutralLaws as laws
use Rattle.zone_select.proofs.neutral.samples_keep_sounding.Goals as goal

pub returns-clause-added : goal.returns-clause-added
returns-clause-added c = laws.sample_added_alike AreAlike alike_by_same

pub returns-clause-removed : goal.returns-clause-removed
returns-clause-removed c = laws.sample_removed_alike AreAlike alike_by_same

pub returns-clause-moved : goal.returns-clause-moved
returns-clause-moved c = laws.sample_moved_alike AreAlike alike_by_same

pub returns-clause-renamed : goal.returns-clause-renamed
returns-clause-renamed c = laws.sample_renamed_alike AreAlike alike_by_same

pub returns-clause-kind : goal.returns-clause-kind
returns-clause-kind c = laws.kind_set_alike AreAlike alike_by_same
