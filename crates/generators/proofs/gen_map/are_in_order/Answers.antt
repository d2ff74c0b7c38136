use Rattle.generators.proofs.Rising.{order_of_ranks, ranks_of_order}
use Rattle.generators.proofs.gen_map.are_in_order.Goals as goal

pub returns : goal.returns
returns c =
    let rises = c.ranks_rise.ensures in
    (λ t. order_of_ranks c.args.entries.now (rises.0 t), λ o. rises.1 (ranks_of_order c.args.entries.now o))
