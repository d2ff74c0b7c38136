use Rattle.bank_core.proofs.FlatLaws.{answered}
use Rattle.bank_core.proofs.flat.owners_of.Goals as goal

pub returns-clause-lists : goal.returns-clause-lists
returns-clause-lists g c =
    let lists = c.into_lists-heads in
    answered g.H.OwnerHead.LEVEL c.args.heads lists.result.0 lists.result.1.items
    c.args.recs
    c.from_flat.result lists.ensures.records lists.ensures.size c.from_flat.ensures.lists
