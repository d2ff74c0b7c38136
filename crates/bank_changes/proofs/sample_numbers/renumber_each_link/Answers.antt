use Rattle.std.proofs.Common.{get_or, arith}
use Rattle.std.proofs.lemmas.List.{get_or_default}
use Rattle.std.proofs.lemmas.List.Edits.{map_over_more}
use Rattle.bank_changes.specs.SampleNumbers.{number_in}
use Rattle.bank_parts.specs.Renumbered.{sample_with}
use Rattle.bank_changes.proofs.sample_numbers.renumber_each_link.Goals as goal

pub loop-sample-preserved : goal.loop-sample-preserved
loop-sample-preserved c =
    let samples = c.loop-sample.samples in
    let i = c.loop-sample.sample-index in
    let x = get_or samples i c.sample-item.result in
    rw c.renumber_link.ensures
    (map_over_more (sample_with (number_in c.args.numbers.now)) c.args.samples.now samples i x c.loop-sample-test.true
    c.loop-sample.invariant (get_or_default samples i c.sample-item.result x (omega arith)))
