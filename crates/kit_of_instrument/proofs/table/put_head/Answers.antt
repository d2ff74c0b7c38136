use Rattle.std.proofs.Common.{◌∙◌, sym}
use Rattle.kit_of_instrument.proofs.PutLaws.{head_put}
use Rattle.kit_of_instrument.proofs.table.put_head.Goals as goal

pub returns-in-Some : goal.returns-in-Some
returns-in-Some g c =
    head_put c.args.bank.now c.args.instrument c.in-Some.name (sym c.inst_name.ensures ∙ c.in-Some.is)
    (rw c.bytes.ensures.value at c.put_name.ensures) c.put_global.ensures
