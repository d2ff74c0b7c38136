use Rattle.std.proofs.Common.{sym, ap, subst, ◌∙◌}
use Rattle.mixer.specs.Events.{unsilenced}
use Rattle.mixer.specs.Ahead.{IsAhead, playing_now}
use Rattle.mixer.proofs.AheadLaws.{silenced_ahead, silenced_playing}
use Rattle.mixer.proofs.ahead.silence_voices.Goals as goal

pub returns-clause-ahead : goal.returns-clause-ahead
returns-clause-ahead c =
    let h =
    silenced_ahead c.drop_ahead.new.ahead c.drop_ahead.new.voices.items c.args.new.now c.drop_ahead.ensures.alone
    c.drop_ahead.ensures.ahead in
    subst (IsAhead c.drop_ahead.new.ahead) (sym c.drop_silenced.ensures.items) h

pub returns-clause-unsilenced : goal.returns-clause-unsilenced
returns-clause-unsilenced c =
    ap (playing_now c.drop_ahead.new.ahead) c.drop_silenced.ensures.items
    ∙ silenced_playing c.drop_ahead.new.ahead c.drop_ahead.new.voices.items c.args.new.now
    ∙ ap (λ ps. unsilenced c.args.new.now ps) c.drop_ahead.ensures.same
