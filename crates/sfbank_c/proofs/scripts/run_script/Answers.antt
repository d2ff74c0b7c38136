use Rattle.sfbank_c.proofs.ScriptLaws.{pool_stops}
use Rattle.sfbank_c.proofs.scripts.run_script.Goals as goal

pub returns-in-Err : goal.returns-in-Err
returns-in-Err c = pool_stops c.args.session.now c.args.script.now c.args.pool.now c.in-Err.stop c.in-Err.ensures
