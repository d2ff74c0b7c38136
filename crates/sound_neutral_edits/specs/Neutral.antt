-- Which edits are neutral.
use Rattle.std.specs.Prelude.{Bool, false}
use Rattle.edit_forms.specs.declared.edit.Edit.{Edit}
use Rattle.edit_forms.specs.declared.edit.Edit.TheVariants.{One, Group}
use Rattle.edit_forms.specs.Steps.{is_neutral_step}

-- one step of a neutral form; never a group
abbrev pub is_neutral : Edit → Bool
is_neutral (One step) = is_neutral_step step
is_neutral (Group steps) = false
