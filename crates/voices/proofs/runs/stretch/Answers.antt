use Rattle.std.proofs.Common.{arith, sym, ◌∙◌}
use Rattle.voices.proofs.RunLaws.{stretch_is, differ, near_is}
use Rattle.voices.proofs.runs.stretch.Goals as goal

pub returns-then-is_looping_at-clause-is_stretch : goal.returns-then-is_looping_at-clause-is_stretch
returns-then-is_looping_at-clause-is_stretch c =
    stretch_is c.args.v.now c.args.t _ c.requires.loop_is c.frames_ahead-n.ensures.young
    c.frames_ahead-n.ensures.unreleased c.frames_ahead-n.ensures.held
    (λ e. absurd (differ _ (sym c.is_looping_at.ensures ∙ c.if-is_looping_at.true) e))

pub returns-clause-is_stretch : goal.returns-clause-is_stretch
returns-clause-is_stretch c =
    stretch_is c.args.v.now c.args.t _ c.requires.loop_is
    (let e = c.frames_ahead-n.ensures.young in let f = c.frames_before.ensures.most in omega arith)
    (let e = c.frames_ahead-n.ensures.unreleased in let f = c.frames_before.ensures.most in omega arith)
    (λ h. let e = c.frames_ahead-n.ensures.held h in let f = c.frames_before.ensures.most in omega arith)
    (λ l k h.
    near_is _ _ _ _ _ _ k c.requires.here c.from.ensures c.from-end.ensures (c.frames_before.ensures.before k h))
