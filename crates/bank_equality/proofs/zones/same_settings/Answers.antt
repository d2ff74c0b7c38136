use Rattle.bank_equality.proofs.Lists.{same_by_mods}
use Rattle.bank_equality.proofs.zones.same_settings.Goals as goal

pub returns-then-same_entries : goal.returns-then-same_entries
returns-then-same_entries g c =
    same_by_mods c.args.a.now c.args.i c.args.at c.args.b.now c.args.j c.args.other _ _ _ _ c.same_mods.result
    c.entries.ensures.value c.entries-2.ensures.value (c.same_entries.ensures.0 c.if-same_entries.true)
    c.mods.ensures c.mods-then-same_entries.ensures c.same_mods.ensures
