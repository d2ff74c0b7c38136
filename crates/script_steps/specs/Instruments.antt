-- The forms that edit instruments: the parsers of their operands, and the operands that are printed.
use Rattle.std.specs.Prelude.{ℕ, List, [], ◌∷◌, codes}
use Rattle.edit_forms.specs.declared.step.Step.{Step}
use Rattle.edit_forms.specs.declared.step.Step.TheVariants as steps
use Rattle.edit_forms.specs.declared.instruments.InstrumentStep.{InstrumentStep}
use Rattle.edit_forms.specs.declared.instruments.InstrumentStep.TheVariants.{AddInstrument, RemoveInstrument}
use Rattle.edit_forms.specs.declared.instruments.InstrumentStep.TheVariants.{RenameInstrument, MoveInstrument}
use Rattle.script_tokens.specs.Parsers.{Parser, ◌>>=◌, pure, most_double_word, number}
use Rattle.script_grammar.specs.Operands.{Operand, Name}
use Rattle.script_steps.specs.Forms.{Form}
use Rattle.script_steps.specs.Members.{place, named_operands, moved_operands, printed_owner, indexed_name, index_pair, owner}

-- `NAME`
abbrev pub name_operands : List ℕ → List Operand
name_operands name = Name name ∷ []

-- `I NAME GLOBAL? ZONE*`
unfoldable pub add_instrument : Parser Step
add_instrument = do
  a ← owner indexed_name
  pure (steps.Instrument (AddInstrument a.0 a.1))

-- `I`
unfoldable pub remove_instrument : Parser Step
remove_instrument = do
  i ← number most_double_word
  pure (steps.Instrument (RemoveInstrument i))

-- `I NAME`
unfoldable pub rename_instrument : Parser Step
rename_instrument = do
  n ← indexed_name
  pure (steps.Instrument (RenameInstrument n.0 n.1))

-- `I J`
unfoldable pub move_instrument : Parser Step
move_instrument = do
  m ← index_pair
  pure (steps.Instrument (MoveInstrument m.0 m.1))

-- the forms
unfoldable pub forms : List Form
forms =
    (codes "add-inst", add_instrument) ∷ (codes "remove-inst", remove_instrument)
    ∷ (codes "rename-inst", rename_instrument) ∷ (codes "move-inst", move_instrument) ∷ []

-- the word of a step's form, and the operands that are printed after it
abbrev pub printed : InstrumentStep → List ℕ × List Operand
printed (AddInstrument at instrument) = (codes "add-inst", printed_owner name_operands at instrument)
printed (RemoveInstrument instrument) = (codes "remove-inst", place instrument ∷ [])
printed (RenameInstrument instrument name) = (codes "rename-inst", named_operands instrument name)
printed (MoveInstrument from to) = (codes "move-inst", moved_operands from to)
