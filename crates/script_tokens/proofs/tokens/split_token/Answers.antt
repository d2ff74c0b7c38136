use Rattle.script_tokens.proofs.LexLaws.{blanks_gone}
use Rattle.script_tokens.proofs.tokens.split_token.Goals as goal

pub returns : goal.returns
returns c = rw (blanks_gone _ _ _ c.blanks_before.ensures c.rest_from.ensures) c.first_token.ensures
