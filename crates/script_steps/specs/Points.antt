-- The forms that edit a sample's points, loop, kind and tuning: the parsers of their operands, and the
-- operands that are printed.
use Rattle.std.specs.Prelude.{ℕ, List, [], ◌∷◌, codes}
use Rattle.edit_forms.specs.declared.step.Step.{Step}
use Rattle.edit_forms.specs.declared.step.Step.TheVariants as steps
use Rattle.edit_forms.specs.declared.points.PointStep.{PointStep}
use Rattle.edit_forms.specs.declared.points.PointStep.TheVariants.{Trim, Extend, SetLoop, SetKind, SetTune}
use Rattle.script_tokens.specs.Parsers.{Parser, ◌>>=◌, pure, most_double_word, number}
use Rattle.script_grammar.specs.Operands.{Operand, Number, Points}
use Rattle.script_grammar.specs.Samples.{kind_operands, loop_operands, tune_operands, kind, looped, points, tune}
use Rattle.script_steps.specs.Forms.{Form}
use Rattle.script_steps.specs.Members.{place}

-- `S F B`
unfoldable pub trim : Parser Step
trim = do
  s ← number most_double_word
  front ← number most_double_word
  back ← number most_double_word
  pure (steps.Points s (Trim front back))

-- `S POINTS POINTS`
unfoldable pub extend : Parser Step
extend = do
  s ← number most_double_word
  front ← points
  back ← points
  pure (steps.Points s (Extend front back))

-- `S LOOP`
unfoldable pub set_loop : Parser Step
set_loop = do
  s ← number most_double_word
  l ← looped
  pure (steps.Points s (SetLoop l))

-- `S KIND`
unfoldable pub set_kind : Parser Step
set_kind = do
  s ← number most_double_word
  k ← kind
  pure (steps.Points s (SetKind k))

-- `S RATE KEY CORR`
unfoldable pub set_tune : Parser Step
set_tune = do
  s ← number most_double_word
  t ← tune
  pure (steps.Points s (SetTune t.0 t.1 t.2))

-- the forms
unfoldable pub forms : List Form
forms =
    (codes "trim", trim) ∷ (codes "extend", extend) ∷ (codes "set-loop", set_loop) ∷ (codes "set-kind", set_kind)
    ∷ (codes "set-tune", set_tune) ∷ []

-- the word of a step's form, and the operands that are printed after it
abbrev pub printed : ℕ → PointStep → List ℕ × List Operand
printed s (Trim front back) =
    (codes "trim", place s ∷ Number most_double_word front ∷ Number most_double_word back ∷ [])
printed s (Extend front back) = (codes "extend", place s ∷ Points front ∷ Points back ∷ [])
printed s (SetLoop looped) = (codes "set-loop", place s ∷ loop_operands looped)
printed s (SetKind kind) = (codes "set-kind", place s ∷ kind_operands kind)
printed s (SetTune rate key correction) = (codes "set-tune", place s ∷ tune_operands rate key correction)
