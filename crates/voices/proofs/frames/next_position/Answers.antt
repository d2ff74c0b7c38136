use Rattle.std.proofs.Common.{◌≡◌, ℕ, ◌+◌, ◌*◌, ◌<◌, length, arith, ap, sym, ◌∙◌}
use Rattle.voices.specs.Position.{is_looping}
use Rattle.voices.specs.Runs.{wrapped_position}
use Rattle.voices.proofs.OverLaws.{position_sounds, is_looped_at}
use Rattle.voices.proofs.RunLaws.{position_on}
use Rattle.voices.proofs.frames.next_position.Goals as goal

pub advanced-requires-clause-loop_is : goal.advanced-requires-clause-loop_is
advanced-requires-clause-loop_is c e =
    c.requires.playable.ordered (is_looped_at c.args.v.now c.args.t (sym c.is_looping_at.ensures ∙ e))

pub prove-unreachable-requires : goal.prove-unreachable-requires
prove-unreachable-requires c =
    let h = position_sounds (length c.args.points.now) c.args.v.now c.args.t c.requires.playable c.requires.sounds in
    let e = c.requires.here in
    omega (arith, h, e)

pub returns : goal.returns
returns c =
    let v = c.args.v.now in
    let t = c.args.t in
    let looping = c.is_looping_at.result in
    let e : is_looping v t ≡ looping = sym c.is_looping_at.ensures in
    let same : (j : ℕ) → j < 1 → is_looping v (t + j) ≡ looping =
    λ j h. ap (is_looping v) (let q : t + j ≡ t = omega arith in q) ∙ e in
    c.advanced.ensures
    ∙ ap (λ x. wrapped_position v looping (x + 1 * v.phase_increment)) c.requires.here
    ∙ sym
    (position_on v t 1 looping c.requires.playable.ordered e same
    (λ l. c.requires.playable.ordered (is_looped_at v t (e ∙ l))))
