use Rattle.generators.proofs.LevelLaws.{targets_are_not_allowed, ranges_are_allowed, instruments_allow_more}
use Rattle.generators.proofs.LevelLaws.{played_is_allowed}
use Rattle.generators.proofs.laws.levels_relate.Goals as goal

pub returns-clause-targets : goal.returns-clause-targets
returns-clause-targets c = targets_are_not_allowed

pub returns-clause-ranges : goal.returns-clause-ranges
returns-clause-ranges c = ranges_are_allowed

pub returns-clause-more : goal.returns-clause-more
returns-clause-more c = instruments_allow_more

pub returns-clause-played : goal.returns-clause-played
returns-clause-played c = played_is_allowed
