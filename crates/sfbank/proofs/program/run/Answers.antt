use Rattle.std.proofs.Common.{inr, refl, rules}
use Rattle.sfbank.proofs.program.run.Goals as goal

pub returns-in-Err-clause-answers : goal.returns-in-Err-clause-answers
returns-in-Err-clause-answers g c =
    inr (record {
      error = c.in-Err.error;
      asks = c.in-Err.ensures.fault;
      files = refl;
      end = c.answer.result;
      reported = search rules;
    })
