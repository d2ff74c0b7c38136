-- The grammar of an edit: its operands on a line, and its parser, from left to right, up to the first fault.
use Rattle.std.specs.Prelude.{◌≡◌, List, [], ◌∷◌, ◌++◌, codes, Bool, true, false, if◌then◌else◌}
use Rattle.edit_forms.specs.declared.step.Step.{Step}
use Rattle.edit_forms.specs.declared.edit.Edit.{Edit}
use Rattle.edit_forms.specs.declared.edit.Edit.TheVariants.{One, Group}
use Rattle.script_tokens.specs.declared.cursor.TokenValue.{TokenValue}
use Rattle.script_tokens.specs.Parsers.{Parser, ◌>>=◌, pure, is_next, ended}
use Rattle.script_grammar.specs.Names.{fixed}
use Rattle.script_grammar.specs.Operands.{Operand, Fixed}
use Rattle.script_grammar.specs.Repeated.{repeated}
use Rattle.script_steps.specs.Grammar.{step_operands, step}
use Rattle.script_steps.specs.TextForm.{EncodesWholeStep}

-- ---- the operands on a line

-- `{ STEP }`
abbrev pub in_braces : List Operand → List Operand
in_braces os = Fixed (codes "{") ∷ os ++ Fixed (codes "}") ∷ []

-- a step in braces, as it is printed
abbrev pub braced : Step → List Operand
braced s = in_braces (step_operands s)

-- the first step in braces, and operands after it that encode the other steps
pub record EncodesBraced (s : Step) (os : List Operand) (Follow : List Operand → Type 0) : Type 0 where
  pub operands : List Operand
  pub more : List Operand
  pub parts : os ≡ in_braces operands ++ more
  pub encoding : EncodesWholeStep s operands
  pub follow : Follow more

-- steps, each in braces
abbrev pub EncodesSteps : List Step → List Operand → Type 0
EncodesSteps [] os = os ≡ []
EncodesSteps (s ∷ ss) os = EncodesBraced s os (λ more. EncodesSteps ss more)

-- `group`, and its steps
pub record EncodesGroup (steps : List Step) (os : List Operand) : Type 0 where
  pub braces : List Operand
  pub parts : os ≡ Fixed (codes "group") ∷ braces
  pub encoding : EncodesSteps steps braces

-- the operands that encode an edit
abbrev pub HasOperands : Edit → List Operand → Type 0
HasOperands (One s) os = EncodesWholeStep s os
HasOperands (Group ss) os = EncodesGroup ss os

-- ---- parsers

-- `{ STEP }`
unfoldable pub braced_step : Parser Step
braced_step = do
  o ← fixed (codes "{")
  s ← step
  c ← fixed (codes "}")
  pure s

-- whether no token remains
abbrev pub is_over : List TokenValue → Bool
is_over [] = true
is_over (s ∷ line) = false

-- a step is appended
abbrev pub with_step : List Step → Step → List Step
with_step ss s = ss ++ s ∷ []

-- steps in braces up to the line's end, each appended
unfoldable pub remaining_steps : List Step → Parser (List Step)
remaining_steps ss line = repeated is_over pure braced_step with_step ss line

-- `group`, and its steps
unfoldable pub group : Parser Edit
group = do
  w ← fixed (codes "group")
  ss ← remaining_steps []
  pure (Group ss)

-- a step
unfoldable pub one : Parser Edit
one = do
  s ← step
  pure (One s)

-- a step, or a group of steps
unfoldable pub one_or_group : Parser Edit
one_or_group line = if is_next (codes "group") line then group line else one line

-- a step or a group, to the line's end
unfoldable pub edit : Parser Edit
edit = do
  e ← one_or_group
  ended e
