use Rattle.std.proofs.Common.{◌≡◌, ◌-◌, true, length, refl, sym, ◌∙◌, ap, arith}
use Rattle.bank_parts.specs.Bagged.{ends_in, without_last}
use Rattle.bank_parts.specs.OwnBags.{is_plain}
use Rattle.bank_parts.proofs.ReadLaws.{front-of, ends-some}
use Rattle.bank_parts.proofs.own_bags.is_own_bag.Goals as goal

pub returns-then-ends_in : goal.returns-then-ends_in
returns-then-ends_in c =
    let gens = c.args.gens.now in
    let ends : ends_in c.args.operator gens ≡ true = sym c.ends_in.ensures ∙ c.if-ends_in.true in
    let some = ends-some c.args.operator gens ends in
    let front : c.without_last.result.now ≡ without_last gens =
    c.without_last.ensures ∙ sym (front-of (length gens - 1) gens (omega (arith, some))) in
    c.is_plain.ensures ∙ (ap (is_plain c.args.operator) front ∙ rw ends refl)
