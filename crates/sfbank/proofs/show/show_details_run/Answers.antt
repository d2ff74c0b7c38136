use Rattle.std.proofs.lemmas.Result.{err_from_is_err_and}
use Rattle.std.proofs.KnownBytes.{Keeps-refl}
use Rattle.sfbank.proofs.OneText.{details_not_read, details_runs}
use Rattle.sfbank.proofs.show.show_details_run.Goals as goal

pub returns-in_err-bank : goal.returns-in_err-bank
returns-in_err-bank g c =
    let p = err_from_is_err_and c.from_residual.result c.from_residual.ensures.1 in
    record {
      runs =
          rw (p.1, p.2)
          (details_not_read (Unit {0}) c.in_err-bank.field-0.0 (g.W.Write.contents c.args.out.now)
          c.args.details c.args.file.now c.in_err-bank.ensures.err);
    }

pub returns-in_err-listing : goal.returns-in_err-listing
returns-in_err-listing g c =
    let p = err_from_is_err_and c.from_residual-in_err-listing.result c.from_residual-in_err-listing.ensures.1 in
    record { runs = rw (p.1, p.2) (Keeps-refl (g.W.Write.contents c.args.out.now)) }

pub returns : goal.returns
returns g c =
    record {
      runs =
          details_runs _ _ c.args.details c.args.file.now c.in_ok-bank.bank c.in_ok-bank.counts c.write_one.result
          c.in_ok-bank.ensures.ok (rw c.in_ok-listing.ensures at c.write_one.ensures);
    }
