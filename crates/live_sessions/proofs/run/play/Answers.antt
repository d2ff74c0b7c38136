use Rattle.std.proofs.Common.{Ok, Err, arith}
use Rattle.std.proofs.lemmas.Result.{err_from_is_err_and}
use Rattle.live_sessions.proofs.Ending.{reached_first, reached_next, plays_to, plays_full, continues, ends_well}
use Rattle.live_sessions.proofs.run.play.Goals as goal

pub loop-turn-init : goal.loop-turn-init
loop-turn-init g c = reached_first c.args.files c.args.counts.now c.args.live.now _

pub loop-turn-preserved : goal.loop-turn-preserved
loop-turn-preserved g c =
    reached_next c.args.files c.args.counts.now c.loop-turn._turn c.args.live.now c.loop-turn.live c.take_line.new.live
    _ _ _ c.loop-turn.invariant
    (continues c.args.files c.args.counts.now _ c.loop-turn.live c.take_line.new.live _ _
    (g.R.LineReader.failure c.take_line.new.input)
    c.in-Line.is c.in_ok-take_line.ensures)

pub returns-in-End : goal.returns-in-End
returns-in-End g c =
    plays_to c.args.files c.args.counts.now c.loop-turn._turn c.args.live.now c.loop-turn.live _ _ _ _ (Ok tt)
    c.loop-turn.invariant
    (ends_well c.args.files c.args.counts.now _ c.loop-turn.live c.take_line.new.live _ _
    (g.R.LineReader.failure c.take_line.new.input)
    c.in-End.is c.in_ok-take_line.ensures)

pub returns-in_err-take_line : goal.returns-in_err-take_line
returns-in_err-take_line g c =
    let p = err_from_is_err_and c.from_residual.result c.from_residual.ensures.1 in
    rw (p.1, p.2)
    (plays_to c.args.files c.args.counts.now c.loop-turn._turn c.args.live.now c.loop-turn.live _ _ _ _
    (Err c.in_err-take_line.field-0.0) c.loop-turn.invariant c.in_err-take_line.ensures)

pub returns : goal.returns
returns g c =
    plays_full c.args.files c.args.counts.now c.loop-turn._turn c.args.live.now c.loop-turn.live _ _ _
    c.loop-turn.invariant
    (omega arith)
