use Rattle.bank_validity.proofs.LimitLaws.{limits_of, no_limit_of}
use Rattle.bank_validity.proofs.laws.limits_agree.Goals as goal

pub returns : goal.returns
returns c = λ b. (limits_of b, no_limit_of b)
