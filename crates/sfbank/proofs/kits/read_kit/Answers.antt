use Rattle.std.proofs.lemmas.Result.{err_from_is_err_and}
use Rattle.std.proofs.Common.{map}
use Rattle.sfbank.specs.Kits.{source_of}
use Rattle.sfbank.proofs.KitRuns.{kit_not_read, no_kit}
use Rattle.sfbank.proofs.kits.read_kit.Goals as goal

pub returns-in_err-recordings-in-Ok : goal.returns-in_err-recordings-in-Ok
returns-in_err-recordings-in-Ok c =
    let p = err_from_is_err_and c.from_residual.result c.from_residual.ensures.1 in
    rw (p.1, p.2)
    (λ design. no_kit design c.args.options (map source_of c.args.waves.items) c.args.file.now c.in-Ok.bank c.in-Ok._counts
    c.in_err-recordings-in-Ok.field-0.0 c.in-Ok.ensures c.in_err-recordings-in-Ok.ensures)

pub returns : goal.returns
returns c design =
    kit_not_read (λ both. both) design c.args.options (map source_of c.args.waves.items) c.in-Err.fault c.args.file.now
    c.in-Err.ensures
