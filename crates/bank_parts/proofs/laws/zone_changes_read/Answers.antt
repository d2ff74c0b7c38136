use Rattle.bank_parts.proofs.UndoneLaws.{zone_added_read, zone_moved_read, target_set_read, gen_set_read}
use Rattle.bank_parts.proofs.UndoneLaws.{gen_cleared_read, mod_added_read, mod_set_read}
use Rattle.bank_parts.proofs.laws.zone_changes_read.Goals as goal

pub returns-clause-zone_added : goal.returns-clause-zone_added
returns-clause-zone_added g c = zone_added_read

pub returns-clause-zone_moved : goal.returns-clause-zone_moved
returns-clause-zone_moved g c = zone_moved_read

pub returns-clause-target_set : goal.returns-clause-target_set
returns-clause-target_set g c = target_set_read

pub returns-clause-gen_set : goal.returns-clause-gen_set
returns-clause-gen_set g c = gen_set_read

pub returns-clause-gen_cleared : goal.returns-clause-gen_cleared
returns-clause-gen_cleared g c = gen_cleared_read

pub returns-clause-mod_added : goal.returns-clause-mod_added
returns-clause-mod_added g c = mod_added_read

pub returns-clause-mod_set : goal.returns-clause-mod_set
returns-clause-mod_set g c = mod_set_read
