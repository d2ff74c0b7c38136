use Rattle.zone_select.proofs.PairLaws as laws
use Rattle.zone_select.proofs.laws.selected_by_pairs.Goals as goal

pub returns : goal.returns
returns c = laws.selected_by_pairs
