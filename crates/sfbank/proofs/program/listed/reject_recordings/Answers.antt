use Rattle.std.proofs.Common.{map, refl}
use Rattle.sfbank.specs.KitPlans.{paths_of, recordings_apart}
use Rattle.sfbank.specs.KitSteps.{entry_of}
use Rattle.sfbank.specs.PlanParts.{apart}
use Rattle.sfbank.proofs.KitPlans.{memory_passes}
use Rattle.sfbank.proofs.PlanLaws.{both_pass, first_fails}
use Rattle.sfbank.proofs.program.listed.reject_recordings.Goals as goal

pub returns-in-Ok-reject_same_file : goal.returns-in-Ok-reject_same_file
returns-in-Ok-reject_same_file g c =
    let k = c.args.work in
    let paths = paths_of (map entry_of c.args.entries.now) in
    both_pass (λ w rest. apart w k.out.now paths rest) (λ w rest. apart w k.undo.now paths rest) _ _ _ tt
    c.reject_same_file-in-Ok-reject_same_file.result
    (rw (c.as_slice.ensures.value, c.in-Ok.ensures) at c.in-Ok-reject_same_file.ensures)
    (rw (c.as_slice-in-Ok-reject_same_file.ensures.value, c.in-Ok.ensures) at c.reject_same_file-in-Ok-reject_same_file.ensures)

pub returns-in-Ok : goal.returns-in-Ok
returns-in-Ok g c =
    let k = c.args.work in
    let paths = paths_of (map entry_of c.args.entries.now) in
    first_fails (λ w rest. apart w k.out.now paths rest) (λ w rest. apart w k.undo.now paths rest) _ _
    c.in-Err-reject_same_file.fault (rw (c.as_slice.ensures.value, c.in-Ok.ensures) at c.in-Err-reject_same_file.ensures)

pub returns : goal.returns
returns g c =
    let k = c.args.work in
    memory_passes (recordings_apart k (paths_of (map entry_of c.args.entries.now))) _ _ k.out refl
