-- The forms that edit the list of samples: the parsers of their operands, and the operands that are printed.
use Rattle.std.specs.Prelude.{ℕ, List, [], ◌∷◌, codes}
use Rattle.edit_forms.specs.declared.step.Step.{Step}
use Rattle.edit_forms.specs.declared.step.Step.TheVariants as steps
use Rattle.edit_forms.specs.declared.samples.SampleStep.{SampleStep}
use Rattle.edit_forms.specs.declared.samples.SampleStep.TheVariants.{RenameSample, AddSample, RemoveSample, MoveSample}
use Rattle.script_tokens.specs.Parsers.{Parser, ◌>>=◌, pure, most_double_word, number}
use Rattle.script_grammar.specs.Operands.{Operand}
use Rattle.script_grammar.specs.Samples.{body_operands, body}
use Rattle.script_steps.specs.Forms.{Form}
use Rattle.script_steps.specs.Members.{place, named_operands, moved_operands, indexed_name, index_pair}

-- `S NAME`
unfoldable pub rename_sample : Parser Step
rename_sample = do
  n ← indexed_name
  pure (steps.Sample (RenameSample n.0 n.1))

-- `S BODY`
unfoldable pub add_sample : Parser Step
add_sample = do
  s ← number most_double_word
  sample ← body
  pure (steps.Sample (AddSample s sample))

-- `S`
unfoldable pub remove_sample : Parser Step
remove_sample = do
  s ← number most_double_word
  pure (steps.Sample (RemoveSample s))

-- `I J`
unfoldable pub move_sample : Parser Step
move_sample = do
  m ← index_pair
  pure (steps.Sample (MoveSample m.0 m.1))

-- the forms
unfoldable pub forms : List Form
forms =
    (codes "rename-sample", rename_sample) ∷ (codes "add-sample", add_sample)
    ∷ (codes "remove-sample", remove_sample) ∷ (codes "move-sample", move_sample) ∷ []

-- the word of a step's form, and the operands that are printed after it
abbrev pub printed : SampleStep → List ℕ × List Operand
printed (RenameSample sample name) = (codes "rename-sample", named_operands sample name)
printed (AddSample at sample) = (codes "add-sample", place at ∷ body_operands sample)
printed (RemoveSample sample) = (codes "remove-sample", place sample ∷ [])
printed (MoveSample from to) = (codes "move-sample", moved_operands from to)
