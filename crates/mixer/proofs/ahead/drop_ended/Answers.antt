use Rattle.std.proofs.Common.{sym, ap, ◌∙◌}
use Rattle.mixer.specs.Ahead.{playing_now}
use Rattle.mixer.proofs.AheadLaws.{none_playing, dropped_playing}
use Rattle.mixer.proofs.ReleasedLaws.{dropped_ahead}
use Rattle.mixer.proofs.ahead.drop_ended.Goals as goal

pub returns-clause-ahead : goal.returns-clause-ahead
returns-clause-ahead c =
    dropped_ahead c.discard.new.ahead c.drop_over.new.voices.items c.discard.ensures.none c.drop_over.ensures.young

pub returns-clause-all : goal.returns-clause-all
returns-clause-all c =
    c.drop_over.ensures.items ∙ sym (none_playing c.discard.new.ahead c.discard.new.voices.items c.discard.ensures.none)
    ∙ c.discard.ensures.same

pub returns-clause-same : goal.returns-clause-same
returns-clause-same c =
    ap (playing_now c.discard.new.ahead) c.drop_over.ensures.items
    ∙ dropped_playing c.discard.new.ahead c.discard.new.voices.items c.discard.ensures.none
    ∙ c.discard.ensures.same
