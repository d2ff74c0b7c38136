use Rattle.std.proofs.Common.{ap, ◌∙◌, rules}
use Rattle.std.proofs.lemmas.List.{nil_from_length}
use Rattle.std.specs.Slice.Iter.{chunks_rest}
use Rattle.hex.specs.Hex.{encode_lower}
use Rattle.base_outputs.proofs.OutputLaws.{putting_step, putting_end}
use Rattle.script_tokens.proofs.PrintLaws.{encode_both, encode_nothing}
use Rattle.script_tokens.proofs.printing.put_through.Goals as goal

pub loop-few-preserved : goal.loop-few-preserved
loop-few-preserved g c =
    let steps = c.in-Some.ensures.steps in
    let few = c.in-Some.few.now in
    let rest = chunks_rest c.next.new.self in (
      search rules,
      tt,
      steps.0 ∙ c.loop-few.invariant.2,
      putting_step (encode_lower few) (encode_lower rest) c.loop-few.invariant.3
          (ap encode_lower steps.1.0 ∙ encode_both few rest) (rw c.write_digits.ensures at c.put.ensures),
    )

pub returns : goal.returns
returns g c =
    let none = nil_from_length _ c.in-None.ensures.steps.1.0 in
    let s = c.loop-few.invariant.3 in
    putting_end (rw (none, encode_nothing) at s)
