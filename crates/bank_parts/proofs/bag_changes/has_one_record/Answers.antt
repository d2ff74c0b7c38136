use Rattle.std.proofs.Common.{◌==◌, ap}
use Rattle.flat_records.specs.Owned.{bag_at}
use Rattle.bank_parts.proofs.BagLaws.{one_counted}
use Rattle.bank_parts.proofs.bag_changes.has_one_record.Goals as goal

pub returns : goal.returns
returns c =
    one_counted (bag_at c.args.bags.now.owners c.args.i c.args.k) c.gens-gens.result.now c.mods-mods.result.now _
    c.gens-gens.ensures c.mods-mods.ensures
    (ap (λ n. n == 1) c.saturating_add.ensures)
