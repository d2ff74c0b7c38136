use Rattle.std.proofs.Common.{ap, ◌∙◌}
use Rattle.show_zone_map.specs.Rectangles.{intersection, has_notes}
use Rattle.show_findings.proofs.ReachLaws.{makes}
use Rattle.show_findings.proofs.zones.makes_rectangle.Goals as goal

pub returns : goal.returns
returns c = λ outer.
    c.overlaps.ensures ∙ ap (λ a. has_notes (intersection c.args.area a)) c.area_of.ensures
    ∙ makes c.args.bank.now outer c.args.area c.args.instrument c.args.zone c.requires
