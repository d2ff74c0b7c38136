use Rattle.edit_script.proofs.ScriptLaws.{script_over_pool}
use Rattle.edit_script.proofs.FitLaws.{parsed_fit}
use Rattle.edit_script.proofs.parsing.parse.Goals as goal

pub returns-clause-parsed : goal.returns-clause-parsed
returns-clause-parsed c = rw (← script_over_pool c.args.text.now c.args.pool.now c.requires) c.parse_lines.ensures

pub returns-clause-fit : goal.returns-clause-fit
returns-clause-fit c =
    parsed_fit c.args.text.now _ c.parse_lines.result
    (rw (← script_over_pool c.args.text.now c.args.pool.now c.requires) c.parse_lines.ensures)
