use Rattle.std.proofs.Common.{rules, not, ap, ◌∙◌}
use Rattle.std.proofs.lemmas.Fn.{filter_same}
use Rattle.live_lines.specs.declared.pedal.Pedal.{Pedal}
use Rattle.live_sessions.specs.Steps.{is_pedal, without_pedal}
use Rattle.live_sessions.proofs.pedals.Pedals.remove.Goals as goal

pub returns : goal.returns
returns c =
    filter_same _ (λ (p : Pedal). not (is_pedal c.args.pedal p)) _ (λ x b f t. search rules) _ _ c.retain.ensures.filtered
    ∙ ap (without_pedal c.args.pedal) c.self.view_is
