use Rattle.bank_parts.proofs.SettingLaws.{others_stay, others_keep_zones, places_stay, global_stays}
use Rattle.bank_parts.proofs.SettingLaws.{heads_stay_by_place, heads_stay_by_zones, targets_stay}
use Rattle.bank_parts.proofs.laws.other_places_stay.Goals as goal

pub returns-clause-members : goal.returns-clause-members
returns-clause-members g c = others_stay

pub returns-clause-members_keep_zones : goal.returns-clause-members_keep_zones
returns-clause-members_keep_zones g c = others_keep_zones

pub returns-clause-places : goal.returns-clause-places
returns-clause-places g c = places_stay

pub returns-clause-global : goal.returns-clause-global
returns-clause-global g c = global_stays

pub returns-clause-heads : goal.returns-clause-heads
returns-clause-heads g c = heads_stay_by_place

pub returns-clause-heads_by_zones : goal.returns-clause-heads_by_zones
returns-clause-heads_by_zones g c = heads_stay_by_zones

pub returns-clause-targets : goal.returns-clause-targets
returns-clause-targets g c = targets_stay
