use Rattle.std.proofs.lemmas.Result.{err_from_is_err_and}
use Rattle.sfbank.proofs.Recordings.{wave_not_read, no_sample, wave_runs, few_points}
use Rattle.sfbank.proofs.wave.wave_run.Goals as goal

pub returns-in_err-bank : goal.returns-in_err-bank
returns-in_err-bank g c =
    let p = err_from_is_err_and c.from_residual.result c.from_residual.ensures.1 in
    record {
      runs =
          rw (p.1, p.2)
          (wave_not_read (Unit {0}) c.in_err-bank.field-0.0 (g.W.Write.contents c.args.out.now) c.args.file.now
          c.args.sample c.in_err-bank.ensures.err);
    }

pub new-requires : goal.new-requires
new-requires g c =
    few_points c.in_ok-bank.bank c.args.sample c.in-Some.found.now c.in_ok-bank.ensures.valid c.in-Some.ensures

pub returns-in-Some : goal.returns-in-Some
returns-in-Some g c =
    record {
      runs =
          wave_runs _ _ c.args.file.now c.args.sample c.in_ok-bank.bank c.in_ok-bank._counts c.in-Some.found.now
          c.write_one.result c.in_ok-bank.ensures.ok c.in-Some.ensures (rw c.new.ensures at c.write_one.ensures);
    }

pub returns : goal.returns
returns g c =
    record {
      runs =
          no_sample (Unit {0}) (g.W.Write.contents c.args.out.now) c.args.file.now c.args.sample c.in_ok-bank.bank
          c.in_ok-bank._counts c.in_ok-bank.ensures.ok c.in-None.ensures;
    }
