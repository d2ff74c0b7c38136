use Rattle.live_sessions.proofs.LineLaws.{read_some, read_none}
use Rattle.live_sessions.proofs.Ending.{line_result, unread, at_end}
use Rattle.live_sessions.proofs.run.take_line.Goals as goal

pub returns-then-is_line : goal.returns-then-is_line
returns-then-is_line g c =
    line_result c.args.files c.args.counts.now c.first_line-line.result.now c.args.live.now c.answer_line.new.live _ _ _
    _ _ _ _ _ _ _ _
    c.answer_line.result
    (read_some _ _ _ c.read_line.new.line.items c.as_slice.result.now c.first_line-line.result.now c.if-is_line.true
    c.in-Ok.ensures.read c.as_slice.ensures.value c.first_line-line.ensures.first)
    c.answer_line.ensures

pub returns-else-is_line : goal.returns-else-is_line
returns-else-is_line g c =
    at_end c.args.files c.args.counts.now c.args.live.now _ _ _ _ _ _
    (read_none _ _ _ c.read_line.new.line.items c.if-is_line.false c.in-Ok.ensures.read)

pub returns-in-Err : goal.returns-in-Err
returns-in-Err g c =
    unread c.args.files c.args.counts.now c.args.live.now c.args.live.now _ _ _ _ _ _ _ c.in-Err.kind c.fault_of.result
    c.in-Err.ensures.failed c.fault_of.ensures c.in-Err.ensures.part
