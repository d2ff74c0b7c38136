use Rattle.sound_neutral_edits.proofs.Applied.{done_alike, done_pairs, done_same, done_back}
use Rattle.sound_neutral_edits.proofs.applying.apply_neutral.Goals as goal

pub returns-clause-alike : goal.returns-clause-alike
returns-clause-alike c =
    let e = c.apply.ensures in done_alike _ _ c.args.edit c.apply.result e.was_sound e.fits c.requires e.outcome

pub returns-clause-pairs : goal.returns-clause-pairs
returns-clause-pairs c =
    let e = c.apply.ensures in done_pairs _ _ c.args.edit c.apply.result e.was_sound e.fits c.requires e.outcome

pub returns-clause-same : goal.returns-clause-same
returns-clause-same c =
    let e = c.apply.ensures in done_same _ _ c.args.edit c.apply.result e.was_sound e.fits c.requires e.outcome

pub returns-clause-back_neutral : goal.returns-clause-back_neutral
returns-clause-back_neutral c = let e = c.apply.ensures in done_back _ _ c.args.edit c.apply.result c.requires e.outcome
