use Rattle.std.proofs.Common.{refl, ◌∙◌}
use Rattle.sfbank.specs.PlanParts.{Text}
use Rattle.sfbank.specs.Recordings.{pair_outcome}
use Rattle.sfbank.proofs.Recordings.{few_points, pair_on, pair_not_found}
use Rattle.sfbank.proofs.OutcomeLaws.{text_put, text_fails}
use Rattle.sfbank.proofs.CommandLaws.{pair_fails}
use Rattle.sfbank.proofs.program.wave.put_pair.Goals as goal

pub new-requires-clause-same : goal.new-requires-clause-same
new-requires-clause-same g c = c.in-Ok-pair_to_write.ensures.same

pub new-requires-clause-few : goal.new-requires-clause-few
new-requires-clause-few g c =
    few_points c.in-Ok.bank c.in-Ok-pair_to_write.ensures.place c.in-Ok-pair_to_write.left.now c.soundness.ensures.valid
    c.in-Ok-pair_to_write.ensures.member

pub returns-in-Ok-pair_to_write : goal.returns-in-Ok-pair_to_write
returns-in-Ok-pair_to_write g c =
    let number = c.args.paths.sample in
    text_put c.args.paths.out.now _ (pair_outcome c.args.file.now number) _ _ _ c.put.result
    (pair_on c.args.file.now number c.in-Ok.bank c.in-Ok._counts c.in-Ok.ensures ∙ c.in-Ok-pair_to_write.ensures.text)
    (rw c.new.ensures at (c.put.ensures (Text _) refl))

pub returns-in-Ok : goal.returns-in-Ok
returns-in-Ok g c =
    let number = c.args.paths.sample in
    text_fails _ _ _ c.args.paths.out c.in-Err-pair_to_write.fault (pair_outcome c.args.file.now number)
    (pair_not_found c.args.file.now number c.in-Ok.bank c.in-Ok._counts c.in-Err-pair_to_write.fault c.in-Ok.ensures
    c.in-Err-pair_to_write.ensures)

pub returns : goal.returns
returns g c =
    let number = c.args.paths.sample in
    text_fails _ _ _ c.args.paths.out c.in-Err.fault (pair_outcome c.args.file.now number)
    (pair_fails (λ both. both) c.in-Err.fault c.args.file.now number c.in-Err.ensures)
