use Rattle.std.proofs.Common.{ap}
use Rattle.base_outputs.proofs.OutputLaws.{puts_as, puts_then}
use Rattle.script_of_bank.specs.BankScript.{first_line}
use Rattle.commented_scripts.proofs.script.CommentedScriptText.put.Goals as goal

pub returns : goal.returns
returns g c =
    puts_then _ _ (puts_as _ _ (ap (first_line c.args.self.now.points) c.minor.ensures) c.put_first_line.ensures)
    c.put_edits.ensures
