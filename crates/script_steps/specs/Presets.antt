-- The forms that edit presets: the parsers of their operands, and the operands that are printed.
use Rattle.std.specs.Prelude.{ℕ, List, [], ◌∷◌, ◌++◌, codes}
use Rattle.bank_parts.specs.declared.parts.Head.{Head}
use Rattle.edit_forms.specs.declared.step.Step.{Step}
use Rattle.edit_forms.specs.declared.step.Step.TheVariants as steps
use Rattle.edit_forms.specs.declared.presets.PresetStep.{PresetStep}
use Rattle.edit_forms.specs.declared.presets.PresetStep.TheVariants.{AddPreset, RemovePreset, MovePreset, SetHead}
use Rattle.script_tokens.specs.Parsers.{Parser, ◌>>=◌, pure, most_word, most_double_word, number, name}
use Rattle.script_grammar.specs.Operands.{Operand, Number, Name}
use Rattle.script_steps.specs.Forms.{Form}
use Rattle.script_steps.specs.Members.{place, named_operands, moved_operands, printed_owner, indexed_name, index_pair}
use Rattle.script_steps.specs.Members.{placed, owner}

-- ---- a preset without its zones

-- `NAME NUMBER BANK LIBRARY GENRE MORPHOLOGY`
abbrev pub head_operands : Head → List Operand
head_operands h =
    Name h.name ∷ Number most_word h.number ∷ Number most_word h.bank ∷ Number most_double_word h.library
    ∷ Number most_double_word h.genre ∷ Number most_double_word h.morphology ∷ []

-- the head with these fields
abbrev pub head_of : List ℕ → ℕ → ℕ → ℕ → ℕ → ℕ → Head
head_of name number bank library genre morphology =
    record { name = name; number = number; bank = bank; library = library; genre = genre; morphology = morphology }

-- `NAME NUMBER BANK LIBRARY GENRE MORPHOLOGY`
unfoldable pub head : Parser Head
head = do
  n ← name
  program ← number most_word
  bank ← number most_word
  library ← number most_double_word
  genre ← number most_double_word
  morphology ← number most_double_word
  pure (head_of n program bank library genre morphology)

-- `P NAME NUMBER BANK LIBRARY GENRE MORPHOLOGY`
unfoldable pub placed_head : Parser (ℕ × Head)
placed_head = placed head

-- ---- the forms

-- `P NAME NUMBER BANK LIBRARY GENRE MORPHOLOGY GLOBAL? ZONE*`
unfoldable pub add_preset : Parser Step
add_preset = do
  a ← owner placed_head
  pure (steps.Preset (AddPreset a.0 a.1))

-- `P`
unfoldable pub remove_preset : Parser Step
remove_preset = do
  p ← number most_double_word
  pure (steps.Preset (RemovePreset p))

-- `I J`
unfoldable pub move_preset : Parser Step
move_preset = do
  m ← index_pair
  pure (steps.Preset (MovePreset m.0 m.1))

-- `P NAME NUMBER BANK`
unfoldable pub set_head : Parser Step
set_head = do
  n ← indexed_name
  program ← number most_word
  bank ← number most_word
  pure (steps.Preset (SetHead n.0 n.1 program bank))

-- the forms
unfoldable pub forms : List Form
forms =
    (codes "add-preset", add_preset) ∷ (codes "remove-preset", remove_preset) ∷ (codes "move-preset", move_preset)
    ∷ (codes "set-head", set_head) ∷ []

-- the word of a step's form, and the operands that are printed after it
abbrev pub printed : PresetStep → List ℕ × List Operand
printed (AddPreset at preset) = (codes "add-preset", printed_owner head_operands at preset)
printed (RemovePreset preset) = (codes "remove-preset", place preset ∷ [])
printed (MovePreset from to) = (codes "move-preset", moved_operands from to)
printed (SetHead preset name number bank) =
    (codes "set-head", named_operands preset name ++ Number most_word number ∷ Number most_word bank ∷ [])
