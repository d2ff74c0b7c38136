use Rattle.std.proofs.Common.{◌≡◌, [], sym, subst, ap, ◌∙◌, arith}
use Rattle.std.proofs.lemmas.Grind.{common_steps}
use Rattle.mixer.specs.Ahead.{IsAhead, playing_now}
use Rattle.mixer.proofs.ReleasedLaws.{ended_ahead, ended_playing}
use Rattle.mixer.proofs.ahead.end_all.Goals as goal

pub returns-clause-ahead : goal.returns-clause-ahead
returns-clause-ahead c =
    let none : c.truncate.new.self.items ≡ [] = grind (arith, common_steps) in
    subst (IsAhead _) (sym none) (ended_ahead _ c.none.ensures)

pub returns-clause-none : goal.returns-clause-none
returns-clause-none c =
    let none : c.truncate.new.self.items ≡ [] = grind (arith, common_steps) in
    ap (playing_now _) none ∙ ended_playing _ c.none.ensures
