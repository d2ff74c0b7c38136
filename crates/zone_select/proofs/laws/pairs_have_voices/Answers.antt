use Rattle.zone_select.proofs.PlayedLaws as laws
use Rattle.zone_select.proofs.laws.pairs_have_voices.Goals as goal

pub returns-clause-pairs_selected : goal.returns-clause-pairs_selected
returns-clause-pairs_selected c = laws.pairs_are_selected

pub returns-clause-voices : goal.returns-clause-voices
returns-clause-voices c = laws.pairs_have_voices
