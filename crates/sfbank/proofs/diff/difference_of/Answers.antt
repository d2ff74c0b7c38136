use Rattle.sfbank.specs.Differences.{TwoBanks}
use Rattle.sfbank.specs.Prepared.{text_of_difference}
use Rattle.sfbank.proofs.Differences.{difference_found}
use Rattle.sfbank.proofs.Restores.{are_bytes}
use Rattle.sfbank.proofs.diff.difference_of.Goals as goal

pub returns-in-Ok-difference_between : goal.returns-in-Ok-difference_between
returns-in-Ok-difference_between c =
    let a = c.args.first.now in
    let b = c.args.second.now in
    let banks : TwoBanks = record { first = c.in-Ok.from; second = c.in-Ok.to } in
    let found = c.in-Ok-difference_between.ensures in
    difference_found c.args.comments a b (text_of_difference c.in-Ok-difference_between.difference) banks
    (are_bytes a c.type_inv.first) c.in-Ok.ensures found.leads found.form found.nothing
