use Rattle.sfbank.proofs.OutcomeLaws.{explain_means}
use Rattle.sfbank.proofs.program.serve.Goals as goal

pub returns-in-Explain : goal.returns-in-Explain
returns-in-Explain g c =
    rw c.in-Explain.is
    (explain_means c.in-Explain.topic (g.H.Host.world c.args.host.now) _ _ _ c.explain.result c.explain.ensures)
