use Rattle.generators.proofs.MapLaws.{same_gens}
use Rattle.generators.proofs.EntryLaws.{ranks_rise, each_operator_once, entries_are_set, set_is_entry}
use Rattle.generators.proofs.EntryLaws.{entries_give_the_map}
use Rattle.generators.proofs.laws.entries_are_the_map.Goals as goal

pub returns-clause-rise : goal.returns-clause-rise
returns-clause-rise c = ranks_rise

pub returns-clause-once : goal.returns-clause-once
returns-clause-once c = each_operator_once

pub returns-clause-set : goal.returns-clause-set
returns-clause-set c = entries_are_set

pub returns-clause-all : goal.returns-clause-all
returns-clause-all c = set_is_entry

pub returns-clause-alike : goal.returns-clause-alike
returns-clause-alike c = same_gens

pub returns-clause-any_order : goal.returns-clause-any_order
returns-clause-any_order c = entries_give_the_map
