use Rattle.live_sessions.proofs.RequestLaws.{with_input}
use Rattle.live_sessions.proofs.Ending.{Reached}
use Rattle.live_sessions.proofs.run.play.Given as goal

-- the lines so far were answered
abbrev pub invariant-loop-turn : goal.invariant-loop-turn
invariant-loop-turn g l =
    Reached l.files l.counts l._turn l.fn.live l.live
    (with_input (g.R.LineReader.remaining l.fn.input) (g.A.Write.contents l.fn.answers) (g.P.Write.contents l.fn.pcm)
    (g.H.Host.world l.fn.host) (g.H.Host.written l.fn.host))
    (with_input (g.R.LineReader.remaining l.input) (g.A.Write.contents l.answers) (g.P.Write.contents l.pcm)
    (g.H.Host.world l.host) (g.H.Host.written l.host))
