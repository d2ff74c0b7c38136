use Rattle.script_grammar.proofs.PutLaws.{puts_body}
use Rattle.script_grammar.proofs.samples.put_sample_body.Goals as goal

pub returns : goal.returns
returns g c = puts_body c.args.sample.now c.put_sample_head.ensures c.put_points.ensures
