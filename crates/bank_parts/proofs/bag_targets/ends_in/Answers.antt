use Rattle.std.proofs.Common.{◌-◌, length, sym, arith}
use Rattle.base_numbered_lists.proofs.Lists.{slice_get-within}
use Rattle.bank_parts.proofs.ReadLaws.{ends-at}
use Rattle.bank_parts.proofs.bag_targets.ends_in.Goals as goal

pub returns-in-Some : goal.returns-in-Some
returns-in-Some c =
    let gens = c.args.gens.now in
    let last = c.in-Some.field-0.now in
    let there = sym c.in-Some.ensures.value in
    let within = slice_get-within gens (length gens - 1) last there in
    sym (ends-at c.args.operator (length gens - 1) gens last (omega arith) there)
