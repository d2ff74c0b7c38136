use Rattle.std.proofs.Common.{rules, FitsSigned, w8}
use Rattle.std.proofs.lemmas.Int.{to_z-of_z}
use Rattle.bank_parts.specs.declared.parts.Kind.TheVariants.{Mono}
use Rattle.bank_changes.specs.Points.{with_kind}
use Rattle.script_grammar.proofs.PutLaws.{puts_head}
use Rattle.script_of_bank.proofs.samples.put_mono_head.Goals as goal

pub returns : goal.returns
returns g c =
    let fits : FitsSigned w8 c.args.sample.now.correction = search rules in
    puts_head (with_kind Mono c.args.sample.now) c.put_name.ensures
    (rw (to_z-of_z w8 c.args.sample.now.correction fits) at c.put_tune.ensures) c.put_kind.ensures
    c.put_loop.ensures
