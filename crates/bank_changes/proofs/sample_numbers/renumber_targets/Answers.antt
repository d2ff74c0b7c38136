use Rattle.std.proofs.Common.{◌∙◌, arith}
use Rattle.bank_changes.specs.SampleNumbers.{number_in}
use Rattle.bank_parts.specs.Renumbered.{owner_with}
use Rattle.base_numbered_lists.proofs.Changing.{next_done}
use Rattle.bank_changes.proofs.sample_numbers.renumber_targets.Goals as goal

pub loop-i-preserved : goal.loop-i-preserved
loop-i-preserved g c =
    c.renumber_zones.ensures
    ∙ next_done (owner_with (number_in c.args.numbers.now)) c.args.owners.now c.loop-i.owners c.loop-i.i
    c.loop-i.invariant (omega arith)
