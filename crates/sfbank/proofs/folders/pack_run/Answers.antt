use Rattle.std.proofs.Common.{map}
use Rattle.bank_format.specs.Canon.{canon}
use Rattle.sfbank.specs.Folders.{pack_outcome}
use Rattle.sfbank.proofs.FolderRuns.{text_stops}
use Rattle.sfbank.proofs.OneText.{one_text_fails, runs_one_text}
use Rattle.sfbank.proofs.folders.pack_run.Goals as goal

pub pack-requires : goal.pack-requires
pack-requires g c = rw c.as_slice-pool.ensures.value c.in-Ok.ensures

pub returns-in-Ok-pack : goal.returns-in-Ok-pack
returns-in-Ok-pack g c =
    record {
      runs =
          runs_one_text _ _ (pack_outcome c.args.text.now (map (λ wave. wave.now) c.args.waves.now)) (canon c.in-Ok-pack.packed.bank)
          c.write_one.result c.in-Ok-pack.ensures c.write_one.ensures;
    }

pub returns-in-Ok : goal.returns-in-Ok
returns-in-Ok g c =
    record {
      runs =
          one_text_fails (Unit {0}) _ (pack_outcome c.args.text.now (map (λ wave. wave.now) c.args.waves.now)) c.in-Err-pack.fault
          c.in-Err-pack.ensures;
    }

pub returns : goal.returns
returns g c =
    record { runs = text_stops _ c.args.text.now (map (λ wave. wave.now) c.args.waves.now) c.in-Err.fault c.in-Err.ensures }
