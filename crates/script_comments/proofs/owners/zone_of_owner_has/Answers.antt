use Rattle.std.proofs.Common.{sym, ◌∙◌}
use Rattle.script_comments.proofs.OwnerLaws.{has_zone, any_start, any_step, any_found, any_end}
use Rattle.script_comments.proofs.owners.zone_of_owner_has.Goals as goal

pub loop-k-init : goal.loop-k-init
loop-k-init g c = any_start c.args.owners.now c.args.i c.args.operator c.requires

pub entries-entries-requires : goal.entries-entries-requires
entries-entries-requires g c =
    has_zone c.args.owners.now c.args.i c.loop-k.k _ c.requires c.zone_count-k-end.ensures c.loop-k-test.true

pub mods-requires : goal.mods-requires
mods-requires g c =
    has_zone c.args.owners.now c.args.i c.loop-k.k _ c.requires c.zone_count-k-end.ensures c.loop-k-test.true

pub loop-k-preserved : goal.loop-k-preserved
loop-k-preserved g c =
    any_step c.args.owners.now c.args.i c.args.operator c.loop-k.k _ _ _ c.requires c.zone_count-k-end.ensures
    c.loop-k-test.true c.entries-entries.ensures.value c.mods.ensures (sym c.content_has.ensures ∙ c.if-content_has.false) c.loop-k.invariant

pub returns : goal.returns
returns g c =
    any_end c.args.owners.now c.args.i c.args.operator c.loop-k.k _ c.requires c.zone_count-k-end.ensures
    c.loop-k-test.false c.loop-k.invariant

pub returns-then-content_has : goal.returns-then-content_has
returns-then-content_has g c =
    any_found c.args.owners.now c.args.i c.args.operator c.loop-k.k _ _ _ c.requires c.zone_count-k-end.ensures
    c.loop-k-test.true c.entries-entries.ensures.value c.mods.ensures (sym c.content_has.ensures ∙ c.if-content_has.true)
    c.loop-k.invariant
