use Rattle.std.proofs.Common.{refl}
use Rattle.sfbank.specs.Maps.{map_outcome}
use Rattle.sfbank.specs.PlanParts.{Text}
use Rattle.sfbank.proofs.OutcomeLaws.{text_put, text_fails}
use Rattle.sfbank.proofs.program.map.put_map.Goals as goal

pub returns-in-Ok : goal.returns-in-Ok
returns-in-Ok g c =
    text_put c.args.paths.out.now _ (map_outcome c.args.file.now c.args.paths.drawn) _ _ _ c.put.result
    c.in-Ok.ensures (c.put.ensures (Text _) refl)

pub returns-in-Err : goal.returns-in-Err
returns-in-Err g c =
    text_fails _ _ _ c.args.paths.out c.in-Err.fault (map_outcome c.args.file.now c.args.paths.drawn) c.in-Err.ensures
