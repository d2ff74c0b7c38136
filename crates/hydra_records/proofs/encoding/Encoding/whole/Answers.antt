use Rattle.std.proofs.Common.{◌≤◌, ◌∙◌, length, ap, sym, arith, length-take}
use Rattle.std.proofs.lemmas.List.{take_all}
use Rattle.hydra_records.proofs.encoding.Encoding.whole.Goals as goal

pub returns : goal.returns
returns g c =
    let size = c.self.invariant.1 in
    let seen = ap length c.self.view_is in
    let full : length c.self.inside.bytes ≤ c.self.inside.len =
    omega (arith, size, seen, length-take c.self.inside.len c.self.inside.bytes) in
    sym (take_all c.self.inside.len c.self.inside.bytes full) ∙ c.self.view_is
