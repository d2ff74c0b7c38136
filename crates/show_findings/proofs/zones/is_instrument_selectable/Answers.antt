use Rattle.std.proofs.Common.{◌≡◌, ◌&&◌, ◌||◌, true, not, None, ap, sym, ◌∙◌}
use Rattle.std.specs.Prelude.{is_some}
use Rattle.show_zone_map.specs.Rectangles.{everything, rectangle_at}
use Rattle.show_findings.specs.Zones.{is_instrument_used, is_reached}
use Rattle.show_findings.proofs.ReachLaws.{reached_by}
use Rattle.show_findings.proofs.zones.is_instrument_selectable.Goals as goal

pub returns-then-own : goal.returns-then-own
returns-then-own c =
    let b = c.args.bank.now in
    let i = c.args.instrument in
    let l = c.args.zone in
    let own : is_some (rectangle_at b None everything i l) ≡ true =
    ap is_some (sym c.zone_rectangle.ensures) ∙ sym c.is_some-own.ensures ∙ c.if-own.true in
    c.is_reached.ensures
    ∙ reached_by b i l c.requires.there c.args.uses.now c.group.result.now c.requires.sorted c.group.ensures
    ∙ ap (λ t. t && (not (is_instrument_used b i) || is_reached b i l)) (sym own)
