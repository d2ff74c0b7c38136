use Rattle.std.proofs.Common.{◌≡◌, [], ap, ◌∙◌, arith}
use Rattle.std.proofs.lemmas.Grind.{common_steps}
use Rattle.mixer.specs.Ahead.{playing_now}
use Rattle.mixer.proofs.AheadLaws.{none_playing}
use Rattle.mixer.proofs.player.Player.new.Goals as goal

pub returns : goal.returns
returns c =
    let e : c.new-2.result.items ≡ [] = grind (arith, common_steps) in
    ap (playing_now c.none.result) e ∙ none_playing c.none.result [] c.none.ensures
