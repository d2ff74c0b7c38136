use Rattle.std.proofs.Common.{if◌then◌else◌, ◌-◌, length, sym, ◌∙◌, ap, arith}
use Rattle.bank_parts.specs.Bagged.{without_last}
use Rattle.bank_parts.proofs.ReadLaws.{front-of, ends-some}
use Rattle.bank_parts.proofs.bag_targets.without_target.Goals as goal

pub without_last-requires : goal.without_last-requires
without_last-requires c = ends-some c.args.operator c.args.gens.now (sym c.ends_in.ensures ∙ c.if-ends_in.true)

pub returns-then-ends_in : goal.returns-then-ends_in
returns-then-ends_in c =
    let gens = c.args.gens.now in
    let some = ends-some c.args.operator gens (sym c.ends_in.ensures ∙ c.if-ends_in.true) in
    c.without_last.ensures
    ∙ (sym (front-of (length gens - 1) gens (omega arith))
    ∙ ap (λ b. if b then without_last gens else gens) (sym (sym c.ends_in.ensures ∙ c.if-ends_in.true)))
