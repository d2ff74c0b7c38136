use Rattle.sfbank.proofs.LiveLaws.{checks_stop_live, input_stops_live, session_ends}
use Rattle.sfbank.proofs.program.live.live.Goals as goal

pub returns-in-Ok-read_input : goal.returns-in-Ok-read_input
returns-in-Ok-read_input g c =
    session_ends c.args.paths _ (g.H.Host.world c.reject_frames.new.host) _ _ _ _ c.in-Ok-read_input.file.items
    c.play_session.result tt c.in-Ok.ensures c.in-Ok-read_input.ensures
    (rw c.as_slice.ensures.value at c.play_session.ensures)

pub returns-in-Err-read_input : goal.returns-in-Err-read_input
returns-in-Err-read_input g c =
    input_stops_live c.args.paths _ (g.H.Host.world c.reject_frames.new.host) _ _ _ c.in-Err-read_input.fault tt
    c.in-Ok.ensures c.in-Err-read_input.ensures

pub returns-in-Err : goal.returns-in-Err
returns-in-Err g c = checks_stop_live c.args.paths _ _ _ _ c.in-Err.fault c.in-Err.ensures
