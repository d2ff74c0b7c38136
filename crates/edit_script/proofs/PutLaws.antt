-- A group that is written step by step has all its operands on the line.
use Rattle.std.proofs.Common.{◌≡◌, ℕ, List, [], ◌∷◌, codes, Option, refl, sym, ap, ◌∙◌, ◌++◌}
use Rattle.std.specs.List.{flat_map}
use Rattle.base_outputs.specs.declared.output.Output.{Output}
use Rattle.base_outputs.specs.Output.{Puts}
use Rattle.base_outputs.proofs.OutputLaws.{puts_as}
use Rattle.edit_forms.specs.declared.step.Step.{Step}
use Rattle.script_grammar.specs.Operands.{Fixed}
use Rattle.script_grammar.proofs.PutLaws.{spaced_out, spaced_both, puts_both}
use Rattle.script_steps.specs.Grammar.{word_of, operands, step_operands}
use Rattle.edit_script.specs.Grammar.{braced}

abbrev pub braced_text : Step → List ℕ
braced_text s = spaced_out (braced s)

all_braced : (ss : List Step) → flat_map braced_text ss ≡ spaced_out (flat_map braced ss)
all_braced [] = refl
all_braced (s ∷ ss) =
    ap (λ (t : List ℕ). braced_text s ++ t) (all_braced ss) ∙ sym (spaced_both (braced s) (flat_map braced ss))

module _ {W : Type 0} {c : W → Option (List ℕ)} where
  pub puts_braced : {o p q r : Output W} (s : Step)
      → Puts c o p (spaced_out (Fixed (codes "{") ∷ Fixed (word_of s) ∷ []))
      → Puts c p q (spaced_out (operands s)) → Puts c q r (spaced_out (Fixed (codes "}") ∷ []))
      → Puts c o r (braced_text s)
  puts_braced s h k l =
      puts_both (Fixed (codes "{") ∷ step_operands s) (Fixed (codes "}") ∷ [])
      (puts_both (Fixed (codes "{") ∷ Fixed (word_of s) ∷ []) (operands s) h k) l

  pub puts_all_braced : {o p : Output W} (ss : List Step) → Puts c o p (flat_map braced_text ss)
      → Puts c o p (spaced_out (flat_map braced ss))
  puts_all_braced ss h = puts_as (flat_map braced_text ss) (spaced_out (flat_map braced ss)) (all_braced ss) h
