use Rattle.std.proofs.Common.{◌∙◌, sym}
use Rattle.kit_of_instrument.proofs.PutLaws.{rest_put}
use Rattle.kit_of_instrument.proofs.table.put_rest.Goals as goal

pub returns-then-not-is_whole : goal.returns-then-not-is_whole
returns-then-not-is_whole g c =
    let first = rw (c.word.ensures, c.from.ensures) at c.put_pieces.ensures in
    rest_put c.args.bank.now c.args.instrument c.args.zone
    (sym c.is_whole.ensures ∙ c.if-not-is_whole.true) c.requires c.put.ensures first
    (rw c.instruments.ensures.value at c.put_zone_of.ensures) c.put-then-not-is_whole.ensures
