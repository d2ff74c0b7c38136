use Rattle.mixer.proofs.Silent.{silent}
use Rattle.mixer.proofs.blocks.silent_totals.Goals as goal

pub returns-clause-silent : goal.returns-clause-silent
returns-clause-silent c = λ k. silent 2048 k
