use Rattle.generators.proofs.MapLaws.{len-insert_absent, len-insert_present, len-remove_present}
use Rattle.generators.proofs.laws.lengths_follow.Goals as goal

pub returns-clause-new : goal.returns-clause-new
returns-clause-new c = len-insert_absent

pub returns-clause-anew : goal.returns-clause-anew
returns-clause-anew c = len-insert_present

pub returns-clause-cleared : goal.returns-clause-cleared
returns-clause-cleared c = len-remove_present
