-- The grammar of a step: the forms, their operands, and how a step is read from left to right, up to the first fault.
use Rattle.std.specs.Prelude.{◌≡◌, ℕ, List, ◌∷◌, ◌++◌}
use Rattle.edit_forms.specs.declared.step.Step.{Step}
use Rattle.edit_forms.specs.declared.step.Step.TheVariants as steps
use Rattle.edit_forms.specs.declared.presets.PresetStep.TheVariants.{AddPreset}
use Rattle.edit_forms.specs.declared.instruments.InstrumentStep.TheVariants.{AddInstrument}
use Rattle.edit_forms.specs.declared.zones.ZoneStep.TheVariants.{AddZone}
use Rattle.script_tokens.specs.Parsers.{Parser, ◌>>=◌}
use Rattle.script_grammar.specs.Operands.{Operand, Fixed}
use Rattle.script_grammar.specs.Names.{next_named}
use Rattle.script_steps.specs.Forms.{Form, form_word}
use Rattle.script_steps.specs.Members.{EncodesOwner}
use Rattle.script_steps.specs.Presets as presets
use Rattle.script_steps.specs.Presets.{head_operands}
use Rattle.script_steps.specs.Instruments as instruments
use Rattle.script_steps.specs.Instruments.{name_operands}
use Rattle.script_steps.specs.Samples as samples
use Rattle.script_steps.specs.Points as points
use Rattle.script_steps.specs.Zones as zones
use Rattle.script_steps.specs.Zones.{EncodesZone}
use Rattle.script_steps.specs.Settings as settings
use Rattle.script_steps.specs.Texts as texts

-- ---- the forms, by the parts of a bank that they edit

-- all forms of step
abbrev pub forms : List Form
forms =
    presets.forms ++ instruments.forms ++ samples.forms ++ points.forms ++ zones.forms ++ settings.forms ++ texts.forms

-- the word of a step's form, and the operands that are printed after it
abbrev pub printed : Step → List ℕ × List Operand
printed (steps.Preset s) = presets.printed s
printed (steps.Instrument s) = instruments.printed s
printed (steps.Sample s) = samples.printed s
printed (steps.Points i s) = points.printed i s
printed (steps.Zone o s) = zones.printed o s
printed (steps.Setting o at s) = settings.printed o at s
printed (steps.Text s) = texts.printed s

-- ---- the operands on a line

-- the word of a step's form
abbrev pub word_of : Step → List ℕ
word_of s = (printed s).0

-- the operands as they are printed
abbrev pub operands : Step → List Operand
operands s = (printed s).1

-- operands that encode the step: zones have several forms, all other operands one
abbrev pub EncodesStep : Step → List Operand → Type 0
EncodesStep (steps.Preset (AddPreset at preset)) os = EncodesOwner head_operands at preset os
EncodesStep (steps.Instrument (AddInstrument at instrument)) os = EncodesOwner name_operands at instrument os
EncodesStep (steps.Zone o (AddZone at zone)) os = EncodesZone o at zone os
EncodesStep step os = os ≡ operands step

-- the word and the operands that are printed for a step
abbrev pub step_operands : Step → List Operand
step_operands s = Fixed (word_of s) ∷ operands s

-- ---- the parser

-- the form whose word is next
abbrev pub a_form : Parser Form
a_form = next_named form_word forms

-- a step: the word of its form, and its operands
unfoldable pub step : Parser Step
step = do
  form ← a_form
  form.1
