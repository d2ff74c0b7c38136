use Rattle.std.proofs.Common.{[], Option, ap, sym, ◌∙◌}
use Rattle.std.specs.List.{cons_option}
use Rattle.show_zone_map.specs.declared.rectangle.Rectangle.{Rectangle}
use Rattle.show_zone_map.specs.Picture.{small_samples, with_samples}
use Rattle.show_zone_map.proofs.LegendLaws.{legend_same, legend_with, with_none}
use Rattle.show_zone_map.proofs.legend.add_rectangle.Goals as goal

pub returns-else-is_small : goal.returns-else-is_small
returns-else-is_small c =
    let ss = c.args.legend.now in
    let large = sym c.is_small.ensures ∙ c.if-is_small.false in
    legend_same ss c.in-Some.rectangle large c.requires
    ∙ ap (λ (r : Option Rectangle). with_samples ss (small_samples (cons_option r []))) (sym c.in-Some.is)

pub returns-then-is_small : goal.returns-then-is_small
returns-then-is_small c =
    let ss = c.args.legend.now in
    let small = sym c.is_small.ensures ∙ c.if-is_small.true in
    c.add.ensures ∙ legend_with ss c.in-Some.rectangle small
    ∙ ap (λ (r : Option Rectangle). with_samples ss (small_samples (cons_option r []))) (sym c.in-Some.is)

pub returns-in_default : goal.returns-in_default
returns-in_default c =
    let ss = c.args.legend.now in
    sym (with_none ss c.requires)
    ∙ ap (λ (r : Option Rectangle). with_samples ss (small_samples (cons_option r []))) (sym c.in_default.is)
