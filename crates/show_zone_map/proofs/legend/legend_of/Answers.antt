use Rattle.std.proofs.Common.{None, ap, sym, ◌∙◌}
use Rattle.bank_changes.specs.declared.members.Owner.TheVariants as owner
use Rattle.show_zone_map.specs.Rectangles.{rectangles, rectangles_in}
use Rattle.show_zone_map.specs.Picture.{small_samples, legend_samples, with_samples}
use Rattle.show_zone_map.proofs.LegendLaws.{from_none}
use Rattle.show_zone_map.proofs.legend.legend_of.Goals as goal

pub returns-in-Preset : goal.returns-in-Preset
returns-in-Preset c =
    let b = c.args.bank.now in
    let rs = rectangles b (owner.Preset c.in-Preset.preset) in
    c.add_preset.ensures ∙ ap (λ ss. with_samples ss (small_samples rs)) c.new-legend.ensures ∙ from_none rs
    ∙ ap (λ o. legend_samples (rectangles b o)) (sym c.in-Preset.is)

pub returns-in-Inst : goal.returns-in-Inst
unfolding rectangles
returns-in-Inst c =
    let b = c.args.bank.now in
    let rs = rectangles b (owner.Inst c.in-Inst.instrument) in
    c.add_instrument.ensures
    ∙ ap (λ area. with_samples c.new-legend.result (small_samples (rectangles_in b None area c.in-Inst.instrument)))
    c.everything.ensures
    ∙ ap (λ ss. with_samples ss (small_samples rs)) c.new-legend.ensures
    ∙ from_none rs
    ∙ ap (λ o. legend_samples (rectangles b o)) (sym c.in-Inst.is)
