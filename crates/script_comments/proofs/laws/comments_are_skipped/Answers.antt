use Rattle.script_comments.proofs.LineLaws.{skipped, each_skipped, read_alike}
use Rattle.script_comments.proofs.laws.comments_are_skipped.Goals as goal

pub returns-clause-in_turn : goal.returns-clause-in_turn
returns-clause-in_turn c = skipped

pub returns-clause-each : goal.returns-clause-each
returns-clause-each c = each_skipped

pub returns-clause-alike : goal.returns-clause-alike
returns-clause-alike c = read_alike
