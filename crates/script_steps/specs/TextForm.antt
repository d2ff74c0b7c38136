-- The operands that encode a step.
use Rattle.std.specs.Prelude.{◌≡◌, List, ◌∷◌}
use Rattle.edit_forms.specs.declared.step.Step.{Step}
use Rattle.script_grammar.specs.Operands.{Operand, Fixed}
use Rattle.script_steps.specs.Grammar.{word_of, EncodesStep}

-- the word of the step's form, and operands after it that encode the rest
pub record EncodesWholeStep (step : Step) (all : List Operand) : Type 0 where
  pub operands : List Operand
  pub parts : all ≡ Fixed (word_of step) ∷ operands
  pub encoding : EncodesStep step operands
