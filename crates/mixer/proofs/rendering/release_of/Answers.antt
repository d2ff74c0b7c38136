use Rattle.zone_select.specs.Pairs.{voice_by}
use Rattle.mixer.proofs.Releases.{release_is, release_most, release_none}
use Rattle.mixer.proofs.rendering.release_of.Goals as goal

pub returns-in-Some-clause-value : goal.returns-in-Some-clause-value
returns-in-Some-clause-value c =
    release_is c.in-Some.played.voice (voice_by c.args.bank.now c.args.note.now c.args.pair) c.in-Some.ensures.voice

pub returns-in-Some-clause-most : goal.returns-in-Some-clause-most
returns-in-Some-clause-most c =
    release_most c.args.bank.now c.args.note.now c.args.pair c.in-Some.played.voice c.in-Some.ensures.voice

pub returns-in-None-clause-value : goal.returns-in-None-clause-value
returns-in-None-clause-value c =
    release_none (voice_by c.args.bank.now c.args.note.now c.args.pair) c.in-None.ensures.voice
