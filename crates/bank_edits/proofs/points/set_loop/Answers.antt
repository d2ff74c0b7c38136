use Rattle.edit_forms.specs.declared.points.PointStep.TheVariants.{SetLoop}
use Rattle.edit_forms.specs.declared.step.Step.TheVariants as steps
use Rattle.edit_refusals.proofs.Accepted.{accepted}
use Rattle.edit_refusals.proofs.PointLaws.{loops, sound_loop}
use Rattle.bank_edits.proofs.points.set_loop.Goals as goal

pub set_loop-old-requires-clause-there : goal.set_loop-old-requires-clause-there
set_loop-old-requires-clause-there c =
    let l =
    loops c.args.bank.now c.args.sample c.args.looped
    (accepted c.args.bank.now (steps.Points c.args.sample (SetLoop c.args.looped)) c.requires.accepted).tests
    in
    l.there

pub set_loop-old-requires-clause-sound : goal.set_loop-old-requires-clause-sound
set_loop-old-requires-clause-sound c =
    sound_loop c.args.bank.now c.args.sample c.args.looped c.requires.sound
    (loops c.args.bank.now c.args.sample c.args.looped
    (accepted c.args.bank.now (steps.Points c.args.sample (SetLoop c.args.looped)) c.requires.accepted).tests)
