use Rattle.std.proofs.Common.{codes}
use Rattle.script_tokens.proofs.PrintLaws.{puts_line}
use Rattle.edit_script.specs.RefusalText.{reason_pieces}
use Rattle.live_lines.proofs.answer.put_refusal.Goals as goal

pub returns : goal.returns
returns g c = puts_line (codes "refused") (reason_pieces c.args.why) c.put.ensures c.put-2.ensures c.put-3.ensures
