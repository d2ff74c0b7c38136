use Rattle.std.proofs.Common.{rules, not, ◌==◌, ap, ◌∙◌}
use Rattle.std.proofs.lemmas.Fn.{filter_same}
use Rattle.live_sessions.specs.declared.held.HeldNote.{HeldNote}
use Rattle.live_sessions.specs.Steps.{held_without}
use Rattle.live_sessions.proofs.held.HeldNotes.remove.Goals as goal

pub returns : goal.returns
returns c =
    filter_same _ (λ (h : HeldNote). not (h.handle == c.args.handle)) _ (λ x b f t. search rules) _ _ c.retain.ensures.filtered
    ∙ ap (held_without c.args.handle) c.self.view_is
