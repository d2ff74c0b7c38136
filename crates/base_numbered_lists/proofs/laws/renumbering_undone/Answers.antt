use Rattle.base_numbered_lists.proofs.Lists.{map-undone}
use Rattle.base_numbered_lists.proofs.laws.renumbering_undone.Goals as goal

pub returns : goal.returns
returns g c = λ xs f k. map-undone f k xs
