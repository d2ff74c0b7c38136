use Rattle.std.proofs.Common.{arith}
use Rattle.generators.proofs.Maps.{length-empty, empty_of_length}
use Rattle.generators.proofs.gen_map.GenMap.is_empty.Goals as goal

pub returns : goal.returns
returns c =
    let length_is = length-empty c.self.invariant c.self.view_is in
    let is_empty = empty_of_length c.self.invariant c.self.view_is in
    (λ t. is_empty (grind (arith)), λ e. let n = length_is e in grind (arith))
