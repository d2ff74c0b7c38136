use Rattle.std.proofs.lemmas.Int.{to_z-of_z}
use Rattle.base_outputs.proofs.OutputLaws.{puts_then}
use Rattle.show_findings.proofs.repairs.put_setting.Goals as goal

pub returns : goal.returns
returns g c =
    let operator = rw c.from.ensures at c.put_numbered.ensures in
    let fits = c.ranges.amount in
    let amount = simp to_z-of_z at c.put_signed.ensures in
    puts_then _ _ c.put.ensures
    (puts_then _ _ c.put_owner.ensures
    (puts_then _ _ c.put_place.ensures (puts_then _ _ operator (puts_then _ _ c.put-2.ensures amount))))
