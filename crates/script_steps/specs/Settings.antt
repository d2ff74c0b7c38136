-- The forms that edit generators and modulators: the parsers of their operands, and the operands that are printed.
use Rattle.std.specs.Prelude.{ℕ, List, [], ◌∷◌, ◌++◌, codes}
use Rattle.modulators.specs.declared.modulator.Modulator.{Modulator}
use Rattle.bank_changes.specs.declared.members.Owner.{Owner}
use Rattle.bank_changes.specs.declared.members.Place.{Place}
use Rattle.edit_forms.specs.declared.step.Step.{Step}
use Rattle.edit_forms.specs.declared.step.Step.TheVariants as steps
use Rattle.edit_forms.specs.declared.settings.SettingStep.{SettingStep}
use Rattle.edit_forms.specs.declared.settings.SettingStep.TheVariants.{SetGen, ClearGen, AddMod, RemoveMod, SetMod}
use Rattle.script_tokens.specs.Parsers.{Parser, ◌>>=◌, pure, most_word, most_double_word, number}
use Rattle.script_grammar.specs.Operands.{Operand, Number}
use Rattle.script_grammar.specs.Items.{generator_operands, modulator_operands, generator, modulator}
use Rattle.script_steps.specs.Forms.{Form}
use Rattle.script_steps.specs.Members.{place}
use Rattle.script_steps.specs.Owners.{of_place, owner_place}

-- `OWNER PLACE J`
abbrev pub index_operands : Owner → Place → ℕ → List Operand
index_operands o p j = of_place o p ++ place j ∷ []

-- `OWNER PLACE J MOD`
abbrev pub modulator_at_operands : Owner → Place → ℕ → Modulator → List Operand
modulator_at_operands o p j m = index_operands o p j ++ modulator_operands m

-- ---- the forms

-- `OWNER PLACE OPERATOR AMOUNT`
unfoldable pub set_gen : Parser Step
set_gen = do
  p ← owner_place
  g ← generator
  pure (steps.Setting p.0 p.1 (SetGen g.0 g.1))

-- `OWNER PLACE OPERATOR`
unfoldable pub clear_gen : Parser Step
clear_gen = do
  p ← owner_place
  operator ← number most_word
  pure (steps.Setting p.0 p.1 (ClearGen operator))

-- `OWNER PLACE J MOD`
unfoldable pub add_mod : Parser Step
add_mod = do
  p ← owner_place
  j ← number most_double_word
  m ← modulator
  pure (steps.Setting p.0 p.1 (AddMod j m))

-- `OWNER PLACE J`
unfoldable pub remove_mod : Parser Step
remove_mod = do
  p ← owner_place
  j ← number most_double_word
  pure (steps.Setting p.0 p.1 (RemoveMod j))

-- `OWNER PLACE J MOD`
unfoldable pub set_mod : Parser Step
set_mod = do
  p ← owner_place
  j ← number most_double_word
  m ← modulator
  pure (steps.Setting p.0 p.1 (SetMod j m))

-- the forms
unfoldable pub forms : List Form
forms =
    (codes "set-gen", set_gen) ∷ (codes "clear-gen", clear_gen) ∷ (codes "add-mod", add_mod)
    ∷ (codes "remove-mod", remove_mod) ∷ (codes "set-mod", set_mod) ∷ []

-- the word of a step's form, and the operands that are printed after it
abbrev pub printed : Owner → Place → SettingStep → List ℕ × List Operand
printed o p (SetGen operator amount) = (codes "set-gen", of_place o p ++ generator_operands operator amount)
printed o p (ClearGen operator) = (codes "clear-gen", of_place o p ++ Number most_word operator ∷ [])
printed o p (AddMod index modulator) = (codes "add-mod", modulator_at_operands o p index modulator)
printed o p (RemoveMod index) = (codes "remove-mod", index_operands o p index)
printed o p (SetMod index modulator) = (codes "set-mod", modulator_at_operands o p index modulator)
