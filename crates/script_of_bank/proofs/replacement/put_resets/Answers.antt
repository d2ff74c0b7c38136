use Rattle.base_outputs.proofs.OutputLaws.{puts_as}
use Rattle.script_of_bank.proofs.RemovalLines.{resets_lines}
use Rattle.script_of_bank.proofs.replacement.put_resets.Goals as goal

pub returns : goal.returns
returns g c = puts_as _ _ (resets_lines c.args.bank.now.texts) c.put_each_reset.ensures
