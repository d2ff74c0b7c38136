use Rattle.live_sessions.proofs.AnsweredLines.{none_asked, failure_answered, request_answered, request_stopped}
use Rattle.live_sessions.proofs.run.answer_line.Goals as goal

pub returns-in-Ok : goal.returns-in-Ok
returns-in-Ok g c =
    request_answered c.args.files c.args.counts.now c.args.line.now c.args.live.now c.do_request.new.live
    c.in-Ok-Some.request c.in-Ok.answer c.kind_of-kind.result
    _ _ _ _ _ _ _ _ c.write_answer.result
    (rw c.in-Ok-Some.field-0-is at c.in-Ok-Some.ensures) c.kind_of-kind.ensures c.in-Ok.ensures.done
    c.write_answer.ensures.is_written c.write_answer.ensures.next

pub returns-in-Err-do_request : goal.returns-in-Err-do_request
returns-in-Err-do_request g c =
    request_stopped c.args.files c.args.counts.now c.args.line.now c.args.live.now c.in-Ok-Some.request _ _ _ _ _ _ _
    c.in-Err-do_request.fault
    (rw c.in-Ok-Some.field-0-is at c.in-Ok-Some.ensures) c.in-Err-do_request.ensures.stopped

pub returns-in-Ok-None : goal.returns-in-Ok-None
returns-in-Ok-None g c =
    none_asked c.args.files c.args.counts.now c.args.line.now c.args.live.now _ _ _ _
    (rw c.in-Ok-None.field-0-is at c.in-Ok-None.ensures)

pub returns-in-Err : goal.returns-in-Err
returns-in-Err g c =
    failure_answered c.args.files c.args.counts.now c.args.line.now c.args.live.now _ _ _ _ _ c.in-Err.failure
    c.reported-answer.result
    c.write_answer-written.result
    c.in-Err.ensures c.reported-answer.ensures c.write_answer-written.ensures.is_written
    c.write_answer-written.ensures.next
