use Rattle.std.proofs.Common.{rules, FitsSigned, w16}
use Rattle.std.proofs.lemmas.Int.{to_z-of_z}
use Rattle.base_outputs.proofs.OutputLaws.{puts_then}
use Rattle.show_page.proofs.zones.put_modulator.Goals as goal

pub returns : goal.returns
returns g c =
    let fits : FitsSigned w16 c.args.modulator.now.amount = search rules in
    puts_then _ _ c.put.ensures
    (rw (
      c.number.ensures,
      c.from.ensures,
      c.signed.ensures,
      to_z-of_z w16 c.args.modulator.now.amount fits,
      c.number-2.ensures,
      c.from-2.ensures,
      c.number-3.ensures,
      c.from-3.ensures,
      c.number-4.ensures,
      c.from-4.ensures,
    )
    at c.put_list.ensures)
