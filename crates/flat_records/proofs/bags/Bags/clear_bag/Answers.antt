use Rattle.std.proofs.Common.{◌∙◌}
use Rattle.flat_records.proofs.WholeBags.{all-cut}
use Rattle.flat_records.proofs.bags.Bags.clear_bag.Goals as goal

pub returns-clause-bags : goal.returns-clause-bags
returns-clause-bags c =
    c.remove_records.ensures.bags
    ∙ all-cut c.args.self.now.bags c.args.k c.gens-gens.result.now c.mods-mods.result.now c.gens-gens.ensures
    c.mods-mods.ensures c.requires
