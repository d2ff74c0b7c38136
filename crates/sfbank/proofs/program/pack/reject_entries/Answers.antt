use Rattle.std.proofs.Common.{map, refl}
use Rattle.sfbank.specs.KitPlans.{paths_of}
use Rattle.sfbank.specs.KitSteps.{entry_of}
use Rattle.sfbank.specs.PlanParts.{apart}
use Rattle.sfbank.proofs.KitPlans.{memory_passes}
use Rattle.sfbank.proofs.program.pack.reject_entries.Goals as goal

pub returns-in-Ok : goal.returns-in-Ok
returns-in-Ok g c = rw (c.as_slice.ensures.value, c.in-Ok.ensures) at c.reject_same_file.ensures

pub returns-in-Err : goal.returns-in-Err
returns-in-Err g c =
    memory_passes (λ w rest. apart w c.args.out.now (paths_of (map entry_of c.args.entries.now)) rest) _ _ c.args.out refl
