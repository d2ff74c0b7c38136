use Rattle.generators.proofs.SettingLaws.{last_of_each_count, last_of_each_are_all}
use Rattle.generators.proofs.laws.last_settings_count.Goals as goal

pub returns-clause-last : goal.returns-clause-last
returns-clause-last c = last_of_each_count

pub returns-clause-all : goal.returns-clause-all
returns-clause-all c = last_of_each_are_all
