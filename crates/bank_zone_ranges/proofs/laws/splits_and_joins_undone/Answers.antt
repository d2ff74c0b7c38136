use Rattle.bank_zone_ranges.proofs.SplitLaws.{split_undone, join_undone, split_is_joinable, join_is_splittable}
use Rattle.bank_zone_ranges.proofs.laws.splits_and_joins_undone.Goals as goal

pub returns-clause-split : goal.returns-clause-split
returns-clause-split g c = split_undone

pub returns-clause-join : goal.returns-clause-join
returns-clause-join g c = join_undone

pub returns-clause-split_joins : goal.returns-clause-split_joins
returns-clause-split_joins g c = split_is_joinable

pub returns-clause-join_splits : goal.returns-clause-join_splits
returns-clause-join_splits g c = join_is_splittable
