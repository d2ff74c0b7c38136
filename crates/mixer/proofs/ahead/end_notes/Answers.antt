use Rattle.std.proofs.Common.{◌≡◌, ◌++◌, map, take, drop, length, sym, ap, subst, ◌∙◌, arith}
use Rattle.std.proofs.lemmas.Grind.{common_steps}
use Rattle.mixer.specs.Ahead.{IsAhead, playing_now}
use Rattle.mixer.specs.Pressed.{released_by}
use Rattle.mixer.proofs.ReleasedLaws.{released_ahead, released_playing}
use Rattle.mixer.proofs.ahead.end_notes.Goals as goal

pub returns-clause-ahead : goal.returns-clause-ahead
returns-clause-ahead c =
    let ps = c.drop_ended.new.voices.items in
    let e : take c.drop_ended.new.voices.len (c.release_voices.new.voices ++ drop (length c.release_voices.new.voices) ps)
    ≡ map (released_by c.args.release) ps =
    grind (arith, common_steps) in
    subst (IsAhead c.drop_ended.new.ahead) (sym e)
    (released_ahead c.drop_ended.new.ahead c.args.release ps c.drop_ended.ensures.none c.drop_ended.ensures.young)

pub returns-clause-released : goal.returns-clause-released
returns-clause-released c =
    let ps = c.drop_ended.new.voices.items in
    let e : take c.drop_ended.new.voices.len (c.release_voices.new.voices ++ drop (length c.release_voices.new.voices) ps)
    ≡ map (released_by c.args.release) ps =
    grind (arith, common_steps) in
    ap (playing_now c.drop_ended.new.ahead) e
    ∙ released_playing c.drop_ended.new.ahead c.args.release ps _ c.drop_ended.ensures.none c.drop_ended.ensures.all
