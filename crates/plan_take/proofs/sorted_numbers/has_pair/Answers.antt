use Rattle.std.proofs.Common.{◌∙◌}
use Rattle.plan_take.proofs.SortedLaws.{searched}
use Rattle.plan_take.proofs.sorted_numbers.has_pair.Goals as goal

pub returns : goal.returns
returns c =
    c.is_ok.ensures.value
    ∙ searched c.args.pairs.now (c.args.bank, c.args.number) c.binary_search.result c.requires
    c.binary_search.ensures.bound c.binary_search.ensures.position
