use Rattle.std.proofs.lemmas.Result.{err_from_is_err_and}
use Rattle.std.proofs.Common.{Err, rules}
use Rattle.base_outputs.proofs.OutputSteps.{ends_sent, ends_unflushed}
use Rattle.base_outputs.proofs.output.Output.deliver.Goals as goal

pub returns-in_err-total : goal.returns-in_err-total
returns-in_err-total g c =
    let p = err_from_is_err_and c.from_residual.result c.from_residual.ensures.1 in
    rw (p.1, p.2)
    (ends_unflushed g.W.Write.contents c.args.self _ c.in_err-total.field-0.0
    (ends_sent g.W.Write.contents c.args.self _ (Err c.in_err-total.field-0.0) (search rules) (search rules)))
