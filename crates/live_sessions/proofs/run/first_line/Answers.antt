use Rattle.live_sessions.proofs.LineLaws.{bare_of}
use Rattle.live_sessions.proofs.run.first_line.Goals as goal

pub returns-in-Some-clause-bare : goal.returns-in-Some-clause-bare
returns-in-Some-clause-bare c = bare_of _ c.args.text.now c.in-Some.line.now _ c.of.ensures c.in-Some.ensures.steps
