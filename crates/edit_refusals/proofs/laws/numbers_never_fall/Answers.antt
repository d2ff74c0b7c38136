use Rattle.edit_refusals.proofs.OrderLaws as order
use Rattle.edit_refusals.proofs.laws.numbers_never_fall.Goals as goal

pub returns : goal.returns
returns c = order.numbers_never_fall
