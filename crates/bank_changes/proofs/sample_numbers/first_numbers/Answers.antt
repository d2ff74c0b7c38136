use Rattle.std.proofs.Common.{◌++◌, ◌∷◌, [], ◌∙◌, ap, sym}
use Rattle.bank_changes.proofs.SampleNumberLaws.{range_more}
use Rattle.bank_changes.proofs.sample_numbers.first_numbers.Goals as goal

pub loop-number-preserved : goal.loop-number-preserved
loop-number-preserved c =
    c.in_ok-push.ensures.items ∙ ap (λ numbers. numbers ++ c.loop-number.number ∷ []) c.loop-number.invariant
    ∙ sym (range_more c.loop-number.number)
