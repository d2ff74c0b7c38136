use Rattle.sfbank.specs.Prepared.{text_of_difference}
use Rattle.sfbank.proofs.Differences.{runs_difference, writes_nothing, no_difference_runs}
use Rattle.sfbank.proofs.diff.diff_run.Goals as goal

pub returns-in-Ok-clause-runs : goal.returns-in-Ok-clause-runs
returns-in-Ok-clause-runs g c =
    runs_difference c.args.comments _ _ c.args.first.now c.args.second.now (text_of_difference c.in-Ok.difference) c.write_one.result
    c.in-Ok.ensures.0 c.in-Ok.ensures.1 c.write_one.ensures

pub returns-in-Ok-clause-nothing : goal.returns-in-Ok-clause-nothing
returns-in-Ok-clause-nothing g c =
    writes_nothing _ _ c.args.first.now c.args.second.now (text_of_difference c.in-Ok.difference) c.write_one.result
    c.in-Ok.ensures.2 c.write_one.ensures

pub returns-in-Err-clause-runs : goal.returns-in-Err-clause-runs
returns-in-Err-clause-runs g c =
    no_difference_runs c.args.comments text_of_difference _ c.args.first.now c.args.second.now c.in-Err.fault c.in-Err.ensures
