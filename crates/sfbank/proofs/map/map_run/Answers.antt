use Rattle.sfbank.specs.Maps.{drawing, map_outcome}
use Rattle.sfbank.proofs.OneText.{runs_one_text, one_text_fails}
use Rattle.sfbank.proofs.map.map_run.Goals as goal

pub returns-in-Ok : goal.returns-in-Ok
returns-in-Ok g c =
    record {
      runs =
          runs_one_text _ _ (map_outcome c.args.file.now c.args.drawn) (drawing c.in-Ok.bank c.args.drawn)
          c.write_one.result c.in-Ok.ensures c.write_one.ensures;
    }

pub returns-in-Err : goal.returns-in-Err
returns-in-Err g c =
    record {
      runs =
          one_text_fails (Unit {0}) _ (map_outcome c.args.file.now c.args.drawn) c.in-Err.fault c.in-Err.ensures;
    }
