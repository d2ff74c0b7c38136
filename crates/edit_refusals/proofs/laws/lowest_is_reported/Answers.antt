use Rattle.edit_refusals.proofs.OrderLaws as order
use Rattle.edit_refusals.proofs.laws.lowest_is_reported.Goals as goal

pub returns : goal.returns
returns c = order.lowest_is_reported
