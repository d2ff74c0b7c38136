use Rattle.std.proofs.Common.{◌≡◌, ap, subst, ◌∙◌, arith}
use Rattle.voices.specs.Sound.{Live}
use Rattle.voices.specs.Release.{released}
use Rattle.voices.proofs.ReleaseLaws.{released_is, released_after}
use Rattle.voices.proofs.voice.Voice.release.Goals as goal

pub returns-then-self-from : goal.returns-then-self-from
returns-then-self-from c =
    let inside = c.self.inside in
    released_is inside.points inside.parameters inside.age _ (omega (arith, c.if-self-from.true)) ∙ ap released c.self.view_is

pub returns-else-self-from : goal.returns-else-self-from
returns-else-self-from c =
    let inside = c.self.inside in
    subst (λ (l : Live). l ≡ released l) c.self.view_is
    (released_after (record { value = record { points = inside.points; parameters = inside.parameters }; age = inside.age })
    (omega (arith, c.if-self-from.false)))
