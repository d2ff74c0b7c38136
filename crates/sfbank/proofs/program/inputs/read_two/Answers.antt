use Rattle.sfbank.proofs.PlanLaws.{first_stops, second_stops}
use Rattle.sfbank.proofs.program.inputs.read_two.Goals as goal

pub returns-in-Err-read_input : goal.returns-in-Err-read_input
returns-in-Err-read_input g c =
    second_stops _ _ _ c.args.first.now c.args.second.now c.in-Ok.first.items c.in-Err-read_input.fault c.in-Ok.ensures
    c.in-Err-read_input.ensures

pub returns-in-Err : goal.returns-in-Err
returns-in-Err g c = first_stops _ _ c.args.first.now c.args.second.now c.in-Err.fault c.in-Err.ensures
