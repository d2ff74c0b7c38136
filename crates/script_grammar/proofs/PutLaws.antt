-- A line that is written part by part has all its operands.
use Rattle.std.proofs.Common.{◌≡◌, ℕ, List, [], ◌∷◌, ◌++◌, Option, refl, sym, ap, ◌∙◌, append_assoc}
use Rattle.std.specs.List.{flat_map}
use Rattle.base_outputs.specs.declared.output.Output.{Output}
use Rattle.base_outputs.specs.Output.{Puts}
use Rattle.base_outputs.proofs.OutputLaws.{puts_then, puts_as}
use Rattle.bank_parts.specs.declared.parts.Sample.{Sample}
use Rattle.script_tokens.specs.Printing.{spaced}
use Rattle.script_grammar.specs.Operands.{Operand, Name, Points, piece_of, pieces_of}
use Rattle.script_grammar.specs.Samples.{kind_operands, loop_operands, tune_operands, head_operands, body_operands}

-- operands, each after a space
abbrev pub spaced_out : List Operand → List ℕ
spaced_out os = flat_map spaced (pieces_of os)

pub spaced_both : (os more : List Operand) → spaced_out (os ++ more) ≡ spaced_out os ++ spaced_out more
spaced_both [] more = refl
spaced_both (o ∷ os) more =
    ap (λ (t : List ℕ). spaced (piece_of o) ++ t) (spaced_both os more)
    ∙ sym (append_assoc (spaced (piece_of o)) (spaced_out os) (spaced_out more))

module _ {W : Type 0} {c : W → Option (List ℕ)} where
  pub puts_both : {o p q : Output W} (os more : List Operand) → Puts c o p (spaced_out os)
      → Puts c p q (spaced_out more) → Puts c o q (spaced_out (os ++ more))
  puts_both os more h k =
      puts_as (spaced_out os ++ spaced_out more) (spaced_out (os ++ more)) (sym (spaced_both os more))
      (puts_then (spaced_out os) (spaced_out more) h k)

  -- the name of a sample, its rate, key and correction, its kind and its loop
  pub puts_head : {o n p q r : Output W} (s : Sample) → Puts c o n (spaced_out (Name s.name ∷ []))
      → Puts c n p (spaced_out (tune_operands s.rate s.key s.correction))
      → Puts c p q (spaced_out (kind_operands s.kind)) → Puts c q r (spaced_out (loop_operands s.looped))
      → Puts c o r (spaced_out (head_operands s))
  puts_head s h i k l =
      puts_both (Name s.name ∷ tune_operands s.rate s.key s.correction)
      (kind_operands s.kind ++ loop_operands s.looped)
      (puts_both (Name s.name ∷ []) (tune_operands s.rate s.key s.correction) h i)
      (puts_both (kind_operands s.kind) (loop_operands s.looped) k l)

  pub puts_body : {o p q : Output W} (s : Sample) → Puts c o p (spaced_out (head_operands s))
      → Puts c p q (spaced_out (Points s.points ∷ [])) → Puts c o q (spaced_out (body_operands s))
  puts_body s h k = puts_both (head_operands s) (Points s.points ∷ []) h k
