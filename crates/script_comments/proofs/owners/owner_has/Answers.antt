use Rattle.std.proofs.Common.{sym, ◌∙◌}
use Rattle.script_comments.proofs.OwnerLaws.{global_has, only_zones_have}
use Rattle.script_comments.proofs.owners.owner_has.Goals as goal

pub returns-then-content_has : goal.returns-then-content_has
returns-then-content_has g c =
    global_has c.args.owners.now c.args.i c.args.operator _ _ c.requires c.entries-entries.ensures.value c.mods.ensures
    (sym c.content_has.ensures ∙ c.if-content_has.true)

pub returns : goal.returns
returns g c =
    only_zones_have c.args.owners.now c.args.i c.args.operator _ _ _ c.requires c.entries-entries.ensures.value
    c.mods.ensures (sym c.content_has.ensures ∙ c.if-content_has.false) c.zone_of_owner_has.ensures
