-- The laws hold by computation.
use Rattle.std.proofs.Common.{refl}
use Rattle.std.specs.Fmt.{digits}
use Rattle.generators.specs.Defaults.{default_of}
use Rattle.generators.specs.Levels.{is_allowed}
use Rattle.generator_rows.proofs.laws.rows_follow_the_rules.Goals as goal

pub returns-clause-operators : goal.returns-clause-operators
unfolding is_allowed
returns-clause-operators c = refl

pub returns-clause-defaults : goal.returns-clause-defaults
unfolding default_of
returns-clause-defaults c = refl

pub returns-clause-played : goal.returns-clause-played
unfolding default_of
returns-clause-played c = refl

pub returns-clause-ranges : goal.returns-clause-ranges
unfolding digits
returns-clause-ranges c = refl
