use Rattle.std.proofs.lemmas.Result.{err_from_is_err_and}
use Rattle.sfbank.proofs.OneText.{show_not_read, show_runs}
use Rattle.sfbank.proofs.show.show_run.Goals as goal

pub returns-in_err-bank : goal.returns-in_err-bank
returns-in_err-bank g c =
    let p = err_from_is_err_and c.from_residual.result c.from_residual.ensures.1 in
    record {
      runs =
          rw (p.1, p.2)
          (show_not_read (Unit {0}) c.in_err-bank.field-0.0 (g.W.Write.contents c.args.out.now) c.args.file.now
          c.in_err-bank.ensures.err);
    }

pub returns : goal.returns
returns g c =
    record {
      runs =
          show_runs _ _ c.args.file.now c.in_ok-bank.bank c.in_ok-bank.counts c.write_one.result
          c.in_ok-bank.ensures.ok (rw c.plain.ensures at c.write_one.ensures);
    }
