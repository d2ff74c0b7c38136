-- A line that is written piece by piece has all its operands.
use Rattle.std.proofs.Common.{ℕ, List, [], ◌∷◌, Option}
use Rattle.base_outputs.specs.declared.output.Output.{Output}
use Rattle.base_outputs.specs.Output.{Puts}
use Rattle.bank_parts.specs.declared.parts.Sample.{Sample}
use Rattle.bank_parts.specs.declared.parts.ZoneOwner.{ZoneOwner}
use Rattle.script_grammar.specs.Operands.{Operand}
use Rattle.script_grammar.specs.Zones.{written_operands, written_of}
use Rattle.script_grammar.specs.Samples.{body_operands}
use Rattle.script_grammar.proofs.PutLaws.{spaced_out, puts_both}
use Rattle.script_steps.specs.Members.{place, printed_owner}

module _ {W : Type 0} {c : W → Option (List ℕ)} where
  pub puts_added : {o p q : Output W} (n : ℕ) (s : Sample) → Puts c o p (spaced_out (place n ∷ []))
      → Puts c p q (spaced_out (body_operands s)) → Puts c o q (spaced_out (place n ∷ body_operands s))
  puts_added n s h k = puts_both (place n ∷ []) (body_operands s) h k

  pub puts_owner : {o p q : Output W} {H : Type 0} (head : H → List Operand) (n : ℕ) (x : ZoneOwner H)
      → Puts c o p (spaced_out (place n ∷ head x.head))
      → Puts c p q (spaced_out (written_operands (written_of x.global x.zones)))
      → Puts c o q (spaced_out (printed_owner head n x))
  puts_owner head n x h k = puts_both (place n ∷ head x.head) (written_operands (written_of x.global x.zones)) h k
