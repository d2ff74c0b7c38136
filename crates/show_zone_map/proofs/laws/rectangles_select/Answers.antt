use Rattle.show_zone_map.proofs.SelectLaws as laws
use Rattle.show_zone_map.proofs.laws.rectangles_select.Goals as goal

pub returns-clause-pairs : goal.returns-clause-pairs
returns-clause-pairs c = laws.pairs_selected

pub returns-clause-pairs_once : goal.returns-clause-pairs_once
returns-clause-pairs_once c = laws.pairs_once

pub returns-clause-zones : goal.returns-clause-zones
returns-clause-zones c = laws.zones_hold

pub returns-clause-zones_once : goal.returns-clause-zones_once
returns-clause-zones_once c = laws.zones_once
