use Rattle.show_zone_map.specs.Picture.{frame}
use Rattle.show_zone_map.proofs.map.put_frame.Goals as goal

pub returns : goal.returns
unfolding frame
returns g c = c.put.ensures
