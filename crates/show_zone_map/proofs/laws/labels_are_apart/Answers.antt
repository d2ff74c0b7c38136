use Rattle.show_zone_map.proofs.LabelLaws.{left_is_above}
use Rattle.show_zone_map.proofs.laws.labels_are_apart.Goals as goal

pub returns : goal.returns
returns c = left_is_above
