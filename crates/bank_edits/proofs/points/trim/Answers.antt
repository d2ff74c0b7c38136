use Rattle.edit_forms.specs.declared.points.PointStep.TheVariants.{Trim}
use Rattle.edit_forms.specs.declared.step.Step.TheVariants as steps
use Rattle.edit_refusals.proofs.Accepted.{accepted}
use Rattle.edit_refusals.proofs.PointLaws.{trims, sound_trim}
use Rattle.bank_edits.proofs.points.trim.Goals as goal

pub trim_sample-requires-clause-there : goal.trim_sample-requires-clause-there
trim_sample-requires-clause-there c =
    let t =
    trims c.args.bank.now c.args.sample c.args.front c.args.back
    (accepted c.args.bank.now (steps.Points c.args.sample (Trim c.args.front c.args.back))
    c.requires.accepted).tests
    in
    t.there

pub trim_sample-requires-clause-points : goal.trim_sample-requires-clause-points
trim_sample-requires-clause-points c =
    let t =
    trims c.args.bank.now c.args.sample c.args.front c.args.back
    (accepted c.args.bank.now (steps.Points c.args.sample (Trim c.args.front c.args.back))
    c.requires.accepted).tests
    in
    t.inside

pub trim_sample-requires-clause-sound : goal.trim_sample-requires-clause-sound
trim_sample-requires-clause-sound c =
    sound_trim c.args.bank.now c.args.sample c.args.front c.args.back c.requires.sound
    (trims c.args.bank.now c.args.sample c.args.front c.args.back
    (accepted c.args.bank.now (steps.Points c.args.sample (Trim c.args.front c.args.back)) c.requires.accepted).tests)
