use Rattle.edit_forms.specs.declared.points.PointStep.TheVariants.{SetKind}
use Rattle.edit_forms.specs.declared.step.Step.TheVariants as steps
use Rattle.edit_refusals.proofs.Accepted.{accepted}
use Rattle.edit_refusals.proofs.PointLaws.{links, sound_kind}
use Rattle.bank_edits.proofs.points.set_kind.Goals as goal

pub set_kind-old-requires-clause-there : goal.set_kind-old-requires-clause-there
set_kind-old-requires-clause-there c =
    let l =
    links c.args.bank.now c.args.sample c.args.kind
    (accepted c.args.bank.now (steps.Points c.args.sample (SetKind c.args.kind)) c.requires.accepted).tests
    in
    l.there

pub set_kind-old-requires-clause-sound : goal.set_kind-old-requires-clause-sound
set_kind-old-requires-clause-sound c =
    sound_kind c.args.bank.now c.args.sample c.args.kind c.requires.sound
    (links c.args.bank.now c.args.sample c.args.kind
    (accepted c.args.bank.now (steps.Points c.args.sample (SetKind c.args.kind)) c.requires.accepted).tests)
