use Rattle.std.proofs.Common.{Some, sym, ◌∙◌}
use Rattle.show_findings.proofs.ReachLaws.{of_zone}
use Rattle.show_findings.proofs.zones.has_rectangles.Goals as goal

pub returns-in-Some : goal.returns-in-Some
returns-in-Some c =
    let k = c.args.zone in
    let found = rw (c.area_of.ensures, c.from.ensures) at (c.any_rectangle.ensures (Some k)) in
    found ∙ of_zone c.args.bank.now c.args.preset k c.in-Some.instrument (sym c.target.ensures ∙ c.in-Some.is)
