use Rattle.std.proofs.Common.{arith}
use Rattle.bank_changes.proofs.PointLaws.{few_then}
use Rattle.edit_refusals.proofs.PointLaws.{there_of_extend, sound_extend}
use Rattle.bank_edits.proofs.points.extend.Goals as goal

pub extend_sample-requires-clause-there : goal.extend_sample-requires-clause-there
extend_sample-requires-clause-there c =
    there_of_extend c.args.bank.now c.args.sample c.args.front c.args.back c.requires.accepted

pub extend_sample-requires-clause-sound : goal.extend_sample-requires-clause-sound
extend_sample-requires-clause-sound c =
    sound_extend c.args.bank.now c.args.sample c.args.front c.args.back c.requires.sound c.len-first.ensures.fits
    c.len-last.ensures.fits c.requires.accepted

pub overflow_cast-result : goal.overflow_cast-result
overflow_cast-result c =
    let b = c.args.bank.now in
    let sound =
    sound_extend b c.args.sample c.args.front c.args.back c.requires.sound c.len-first.ensures.fits
    c.len-last.ensures.fits c.requires.accepted in
    let few =
    few_then b c.args.sample c.args.front c.args.back
    (there_of_extend b c.args.sample c.args.front c.args.back c.requires.accepted) sound in
    omega (arith, few, c.len-first.ensures.value)

pub overflow_cast-result-in-Ok : goal.overflow_cast-result-in-Ok
overflow_cast-result-in-Ok c =
    let b = c.args.bank.now in
    let sound =
    sound_extend b c.args.sample c.args.front c.args.back c.requires.sound c.len-first.ensures.fits
    c.len-last.ensures.fits c.requires.accepted in
    let few =
    few_then b c.args.sample c.args.front c.args.back
    (there_of_extend b c.args.sample c.args.front c.args.back c.requires.accepted) sound in
    omega (arith, few, c.len-last.ensures.value)
