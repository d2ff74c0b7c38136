use Rattle.std.proofs.Common.{◌≡◌, true, false, pos, sym, subst, ◌∙◌}
use Rattle.voices.specs.Position.{is_over}
use Rattle.voices.specs.Sound.{Live, snd}
use Rattle.voices.proofs.RunLaws.{over_is_silent}
use Rattle.voices.proofs.voice.Voice.next_frame.Goals as goal

pub returns-then-state-clause-left : goal.returns-then-state-clause-left
returns-then-state-clause-left c =
    let over : is_over c.self.inside.parameters c.self.inside.age ≡ true =
    sym c.self.invariant.1.over ∙ c.if-state.true in
    subst (λ (l : Live). pos 0 ≡ snd l.value true l.age) c.self.view_is (sym (over_is_silent _ true _ over))

pub returns-then-state-clause-right : goal.returns-then-state-clause-right
returns-then-state-clause-right c =
    let over : is_over c.self.inside.parameters c.self.inside.age ≡ true =
    sym c.self.invariant.1.over ∙ c.if-state.true in
    subst (λ (l : Live). pos 0 ≡ snd l.value false l.age) c.self.view_is (sym (over_is_silent _ false _ over))
