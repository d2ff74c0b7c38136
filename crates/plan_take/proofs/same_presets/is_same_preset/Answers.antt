use Rattle.std.proofs.Common.{Some, slice_get, sym, ap, ◌∙◌}
use Rattle.plan_take.proofs.DuplicateLaws.{same_preset}
use Rattle.plan_take.proofs.same_presets.is_same_preset.Goals as goal

pub returns-then-is_same : goal.returns-then-is_same
returns-then-is_same c t =
    same_preset c.args.instruments.now (slice_get c.args.from.now c.args.i) (slice_get c.args.to.now c.args.i)
    (c.head.ensures ∙ ap Some (c.is_same.ensures.0 c.if-is_same.true) ∙ sym c.head-2.ensures) (c.is_renumbered.ensures t)
