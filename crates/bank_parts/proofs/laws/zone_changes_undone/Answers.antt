use Rattle.bank_parts.proofs.UndoneLaws.{zone_added_undone, zone_removed_undone, zone_moved_undone, target_set_back}
use Rattle.bank_parts.proofs.UndoneLaws.{gen_set_back, gen_set_cleared, gen_cleared_undone, mod_added_undone}
use Rattle.bank_parts.proofs.UndoneLaws.{mod_removed_undone, mod_set_back}
use Rattle.bank_parts.proofs.laws.zone_changes_undone.Goals as goal

pub returns-clause-zone_added : goal.returns-clause-zone_added
returns-clause-zone_added g c = zone_added_undone

pub returns-clause-zone_removed : goal.returns-clause-zone_removed
returns-clause-zone_removed g c = zone_removed_undone

pub returns-clause-zone_moved : goal.returns-clause-zone_moved
returns-clause-zone_moved g c = zone_moved_undone

pub returns-clause-target_set : goal.returns-clause-target_set
returns-clause-target_set g c = target_set_back

pub returns-clause-gen_set : goal.returns-clause-gen_set
returns-clause-gen_set g c = gen_set_back

pub returns-clause-gen_set_cleared : goal.returns-clause-gen_set_cleared
returns-clause-gen_set_cleared g c = gen_set_cleared

pub returns-clause-gen_cleared : goal.returns-clause-gen_cleared
returns-clause-gen_cleared g c = gen_cleared_undone

pub returns-clause-mod_added : goal.returns-clause-mod_added
returns-clause-mod_added g c = mod_added_undone

pub returns-clause-mod_removed : goal.returns-clause-mod_removed
returns-clause-mod_removed g c = mod_removed_undone

pub returns-clause-mod_set : goal.returns-clause-mod_set
returns-clause-mod_set g c = mod_set_back
