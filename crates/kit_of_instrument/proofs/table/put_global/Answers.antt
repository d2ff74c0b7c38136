use Rattle.std.proofs.Common.{◌∙◌, sym}
use Rattle.std.specs.Prelude.{slice_get}
use Rattle.std.proofs.lemmas.Option.{IfSome_then}
use Rattle.kit_of_instrument.proofs.PutLaws.{global_put}
use Rattle.kit_of_instrument.proofs.table.put_global.Goals as goal

pub returns-then-not-is_plain : goal.returns-then-not-is_plain
returns-then-not-is_plain g c =
    let b = c.args.bank.now in
    let i = c.args.instrument in
    let first = rw c.word.ensures at c.put_pieces.ensures in
    let global = rw c.instruments.ensures.value at c.put_global_of.ensures in
    IfSome_then (slice_get b.instruments i) global
    (λ x h.
    global_put b i x (sym c.is_plain.ensures ∙ c.if-not-is_plain.true) c.put.ensures first h
    c.put-then-not-is_plain.ensures)
