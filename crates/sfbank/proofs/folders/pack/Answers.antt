use Rattle.std.proofs.Common.{map}
use Rattle.sfbank.proofs.FolderRuns.{no_packed, packed_lines}
use Rattle.sfbank.proofs.folders.pack.Goals as goal

pub returns-in-Ok : goal.returns-in-Ok
returns-in-Ok c =
    rw (packed_lines c.args.text.text.now (map (λ wave. wave.now) c.args.waves.now) c.in-Ok.lines.items c.in-Ok.ensures)
    (rw c.minor_of.ensures at c.pack_lines.ensures)

pub returns-in-Err : goal.returns-in-Err
returns-in-Err c =
    no_packed c.args.text.text.now (map (λ wave. wave.now) c.args.waves.now) c.in-Err.fault c.in-Err.ensures
