use Rattle.show_sample.specs.Picture.{style}
use Rattle.show_sample.proofs.picture.put_style.Goals as goal

pub returns : goal.returns
unfolding style
returns g c = c.put.ensures
