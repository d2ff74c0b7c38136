use Rattle.std.proofs.Common.{refl}
use Rattle.program_commands.specs.declared.words.Request.TheVariants.{Replace}
use Rattle.sfbank.proofs.program.replace.replace.Goals as goal

pub returns : goal.returns
returns g c printed =
    c.record.ensures (Replace c.args.paths) printed (record { plans = λ w i. refl; inputs = λ w r s others h k. (h, k, tt) })
