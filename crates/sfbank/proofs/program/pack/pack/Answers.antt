use Rattle.std.proofs.Common.{◌∙◌, refl}
use Rattle.sfbank.specs.FolderPlans.{pack_apart}
use Rattle.sfbank.proofs.FolderPlans.{pack_means, pack_rejected}
use Rattle.sfbank.proofs.KitPlans.{memory_passes}
use Rattle.sfbank.proofs.program.pack.pack.Goals as goal

pub pack_at-requires : goal.pack_at-requires
pack_at-requires g c = c.as_str.ensures ∙ c.in-Ok.ensures

pub returns-in-Ok : goal.returns-in-Ok
returns-in-Ok g c = pack_means c.args.paths _ _ _ _ c.pack_at.result c.pack_at.ensures

pub returns-in-Err : goal.returns-in-Err
returns-in-Err g c =
    let p = c.args.paths in
    pack_means p _ _ _ _ _ (pack_rejected p _ _ _ _ _ (memory_passes (pack_apart p) _ _ p.out refl))
