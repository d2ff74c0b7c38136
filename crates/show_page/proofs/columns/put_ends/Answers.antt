use Rattle.std.proofs.Common.{rules, FitsSigned, w16}
use Rattle.std.proofs.lemmas.Int.{to_z-of_z}
use Rattle.base_outputs.proofs.OutputLaws.{puts_then}
use Rattle.show_page.proofs.columns.put_ends.Goals as goal

pub returns : goal.returns
returns g c =
    let high : FitsSigned w16 c.args.ends.high = search rules in
    let low : FitsSigned w16 c.args.ends.low = search rules in
    puts_then _ _ (rw (to_z-of_z w16 c.args.ends.high high) at c.put_height.ensures)
    (rw (to_z-of_z w16 c.args.ends.low low) at c.put_height-2.ensures)
