use Rattle.generators.specs.Gens.{FitsEntry}
use Rattle.generators.proofs.EntryLaws.{All-no_gens, All-insert, All-remove}
use Rattle.generators.proofs.laws.numbers_fit.Goals as goal

pub returns-clause-none : goal.returns-clause-none
returns-clause-none c = All-no_gens FitsEntry

pub returns-clause-set : goal.returns-clause-set
returns-clause-set c m op w fit p q = All-insert FitsEntry m op w (p, q) fit

pub returns-clause-cleared : goal.returns-clause-cleared
returns-clause-cleared c m op fit = All-remove FitsEntry m op fit
