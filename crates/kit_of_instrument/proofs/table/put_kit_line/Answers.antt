use Rattle.kit_of_instrument.proofs.PutLaws.{line_put}
use Rattle.kit_of_instrument.proofs.table.put_kit_line.Goals as goal

pub returns : goal.returns
returns g c =
    line_put c.args.file.now c.args.zone.now c.put.ensures c.put-2.ensures c.put-3.ensures c.put_kit_zone.ensures
    c.put-4.ensures
