use Rattle.sfbank.proofs.FolderPlans.{no_lines}
use Rattle.sfbank.proofs.program.pack.pack_text.Goals as goal

pub pack_listed-requires : goal.pack_listed-requires
pack_listed-requires g c = rw c.as_slice-pool.ensures.value c.in-Ok.ensures

pub returns-in-Err : goal.returns-in-Err
returns-in-Err g c = no_lines c.args.paths c.args.text.now _ _ _ c.in-Err.fault c.in-Err.ensures
