use Rattle.script_comments.proofs.AlongLaws.{follow, along_are}
use Rattle.script_comments.proofs.laws.comments_follow_the_bank.Goals as goal

pub returns-clause-names : goal.returns-clause-names
returns-clause-names c = follow

pub returns-clause-comments : goal.returns-clause-comments
returns-clause-comments c = along_are
