use Rattle.std.proofs.Common.{◌+◌}
use Rattle.bank_linked_members.proofs.span.LinkSpan.after_insertion.Goals as goal

pub returns-then-has_link-clause-outside : goal.returns-then-has_link-clause-outside
returns-then-has_link-clause-outside c =
    let outside = c.with.ensures.outside in
    let before = c.shifted-shifted.ensures.outside in
    record {
      below = λ i o l. before.below i (outside i o) l;
      above = λ i o g. before.above i (outside (i + 1) o) g;
    }
