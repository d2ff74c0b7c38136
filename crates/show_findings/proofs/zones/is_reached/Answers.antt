use Rattle.std.proofs.Common.{◌≡◌, ◌||◌, true, false, not, ap, sym, ◌∙◌, arith}
use Rattle.std.specs.List.{list_any}
use Rattle.std.proofs.lemmas.Bool.Decides.{nat_tests}
use Rattle.bank_changes.specs.declared.members.Owner.TheVariants as owner
use Rattle.show_zone_map.specs.Rectangles.{area_of, intersection, has_notes}
use Rattle.show_findings.specs.declared.zones.Use.{Use}
use Rattle.show_findings.proofs.ReachLaws.{some_member}
use Rattle.show_findings.proofs.zones.is_reached.Goals as goal

pub returns-else-is_empty : goal.returns-else-is_empty
returns-else-is_empty c =
    let uses = c.args.uses.now in
    let there = area_of c.args.bank.now (owner.Inst c.args.instrument) c.args.zone in
    let empty : c.is_empty.result ≡ false = c.if-is_empty.false in
    let is = c.is_empty.ensures in
    let some : list_any (λ (u : Use). true) uses ≡ true = some_member uses (grind (arith, nat_tests)) in
    c.any_overlaps.ensures ∙ ap (λ a. list_any (λ (u : Use). has_notes (intersection u.area a)) uses) c.area_of.ensures
    ∙ ap (λ t. not t || list_any (λ (u : Use). has_notes (intersection u.area there)) uses) (sym some)
