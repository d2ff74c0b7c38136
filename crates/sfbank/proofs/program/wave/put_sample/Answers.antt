use Rattle.std.proofs.Common.{refl}
use Rattle.edit_forms.specs.declared.cause.Cause.TheVariants.{NoSuchSample}
use Rattle.program_reports.specs.declared.run_fault.RunFault.TheVariants as run
use Rattle.sfbank.specs.PlanParts.{Text}
use Rattle.sfbank.specs.Recordings.{wave_outcome}
use Rattle.sfbank.proofs.Recordings.{few_points}
use Rattle.sfbank.proofs.OutcomeLaws.{text_put, text_fails}
use Rattle.sfbank.proofs.CommandLaws.{wave_fails, wave_text, no_wave}
use Rattle.sfbank.proofs.program.wave.put_sample.Goals as goal

pub new-requires : goal.new-requires
new-requires g c =
    few_points c.in-Ok.bank c.args.paths.sample c.in-Some.found.now c.soundness.ensures.valid c.in-Some.ensures

pub returns-in-Some : goal.returns-in-Some
returns-in-Some g c =
    let number = c.args.paths.sample in
    text_put c.args.paths.out.now _ (wave_outcome c.args.file.now number) _ _ _ c.put.result
    (wave_text c.args.file.now number c.in-Ok.bank c.in-Ok._counts c.in-Some.found.now c.in-Ok.ensures c.in-Some.ensures)
    (rw c.new.ensures at (c.put.ensures (Text _) refl))

pub returns-in-Ok : goal.returns-in-Ok
returns-in-Ok g c =
    let number = c.args.paths.sample in
    text_fails _ _ _ c.args.paths.out (run.NoMember NoSuchSample) (wave_outcome c.args.file.now number)
    (no_wave c.args.file.now number c.in-Ok.bank c.in-Ok._counts c.in-Ok.ensures c.in-None.ensures)

pub returns : goal.returns
returns g c =
    let number = c.args.paths.sample in
    text_fails _ _ _ c.args.paths.out c.in-Err.fault (wave_outcome c.args.file.now number)
    (wave_fails (λ both. both) c.in-Err.fault c.args.file.now number c.in-Err.ensures)
