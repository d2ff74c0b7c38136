use Rattle.std.proofs.Common.{List, [], ℕ}
use Rattle.std.specs.Borrow.{Bor}
use Rattle.program_explanations.specs.declared.explanations.Explanation.{Explanation}
use Rattle.base_outputs.proofs.OutputLaws.{putting_member}
use Rattle.program_explanations.specs.Explanations.{next_text}
use Rattle.program_explanations.proofs.explanations.put_others.Goals as goal

abbrev no_text : Bor (List ℕ)
no_text = record { ref_ptr = (0, 0); now = [] }

abbrev no_explanation : Explanation
no_explanation = record { number = 0; name = no_text; meaning = no_text; what_to_do = no_text }

pub loop-other-preserved : goal.loop-other-preserved
loop-other-preserved g c =
    putting_member next_text c.args.others.now c.loop-other.other-index no_explanation c.loop-other.invariant
    c.loop-other-test.true c.put_next.ensures
