use Rattle.zone_select.proofs.SummedLaws as laws
use Rattle.zone_select.proofs.laws.linear_modulators_are_summed.Goals as goal

pub returns-clause-all : goal.returns-clause-all
returns-clause-all c = laws.linear_summed

pub returns-clause-linear : goal.returns-clause-linear
returns-clause-linear c = laws.summed_linear

pub returns-clause-once : goal.returns-clause-once
returns-clause-once c = laws.summed_once
