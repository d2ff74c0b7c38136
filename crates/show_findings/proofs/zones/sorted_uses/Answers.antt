use Rattle.std.proofs.Common.{List, ap, ◌∙◌}
use Rattle.std.specs.List.{list_any, flat_map, filter_map}
use Rattle.bank_changes.specs.declared.members.Owner.{Owner}
use Rattle.show_zone_map.specs.Rectangles.{zone_numbers}
use Rattle.show_findings.specs.PresetZones.{use_at}
use Rattle.show_findings.proofs.zones.sorted_uses.Goals as goal

pub returns : goal.returns
returns c =
    let b = c.args.bank.now in
    let all =
    c.in_ok-uses.ensures
    ∙ ap (λ (os : List Owner). flat_map (λ (o : Owner). filter_map (use_at b o) (zone_numbers b o)) os)
    (c.as_slice.ensures.value ∙ c.in_ok-presets.ensures) in
    record { same = λ p. c.sort_uses.ensures.same p ∙ ap (list_any p) all; ascend = c.sort_uses.ensures.ascend }
