use Rattle.std.proofs.Common.{set, sym, ap, ◌∙◌}
use Rattle.std.proofs.lemmas.List.Edits.{map_over_more}
use Rattle.mixer.specs.declared.playing.PlayingVoice.{PlayingVoice}
use Rattle.mixer.specs.Pressed.{with_handle}
use Rattle.mixer.proofs.playing.set_handles.Goals as goal

pub loop-p-preserved : goal.loop-p-preserved
loop-p-preserved c =
    let i = c.loop-p.p-index in
    let xs = c.args.voices.now in
    let ys = c.loop-p.voices in
    ap (λ (p : PlayingVoice). set ys i (with_handle c.args.handle p)) (sym c.p-item.is)
    ∙ map_over_more (with_handle c.args.handle) xs ys i c.p-item.result c.loop-p-test.true c.loop-p.invariant c.p-item.is
