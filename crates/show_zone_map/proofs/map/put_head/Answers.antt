use Rattle.show_zone_map.specs.Picture.{head}
use Rattle.show_zone_map.proofs.map.put_head.Goals as goal

pub returns : goal.returns
unfolding head
returns g c = c.put.ensures
