use Rattle.std.proofs.Common.{◌∙◌, sym}
use Rattle.script_tokens.proofs.LexLaws.{tokens_end, tokens_front, tokens_nothing, fewer}
use Rattle.script_tokens.proofs.tokens.TokensIterator.next.Goals as goal

pub returns-in-Some-clause-steps : goal.returns-in-Some-clause-steps
returns-in-Some-clause-steps c = sym c.self.view_is ∙ tokens_front c.self.inside.rest.now _ c.in-Some.ensures

pub returns-in-Some-clause-goes : goal.returns-in-Some-clause-goes
returns-in-Some-clause-goes c =
    record { on = λ _. (tt, tt, fewer _ _ _ (returns-in-Some-clause-steps c)); keeps = tt; rests = λ _. tt }

pub returns-in-None-clause-steps : goal.returns-in-None-clause-steps
returns-in-None-clause-steps c =
    (sym c.self.view_is ∙ tokens_end c.self.inside.rest.now c.in-None.ensures, tokens_nothing)
