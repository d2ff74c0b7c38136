-- A form of step: its word, and the parser of its operands.
use Rattle.std.specs.Prelude.{◌≡◌, ℕ, List, Option, Some, None, Result, Ok, Err, IsSome}
use Rattle.sf_base.specs.declared.memory.Failure.{Failure}
use Rattle.sf_base.specs.declared.memory.Failure.TheVariants.{Fault, OutOfMemory}
use Rattle.edit_forms.specs.declared.step.Step.{Step}
use Rattle.script_tokens.specs.declared.fault.LineFault.{LineFault}
use Rattle.script_tokens.specs.declared.fault.LineFault.TheVariants as faults
use Rattle.script_tokens.specs.TokenValue as cursors
use Rattle.script_tokens.specs.Parsers.{Parser, ◌>>=◌, or_fault}
use Rattle.script_grammar.specs.Memory.{ReadsOrOutOfMemory}
use Rattle.script_grammar.specs.Names.{named}

-- the word of a form, and the parser of its operands
abbrev pub Form : Type 0
Form = List ℕ × Parser Step

abbrev pub form_word : Form → List ℕ
form_word form = form.0

-- the form that has this word
abbrev pub form_in : List Form → List ℕ → Option Form
form_in forms w = named form_word forms w

-- the parser of the operands of a form; a word of no form is a fault of syntax
abbrev pub following : Option Form → Parser Step
following form = or_fault faults.Syntax form >>= λ f. f.1

-- a result other than `OutOfMemory`
abbrev pub IsNotOutOfMemory : Result Step (Failure LineFault) → Type 0
IsNotOutOfMemory (Ok step) = Unit {0}
IsNotOutOfMemory (Err (Fault e)) = Unit {0}
IsNotOutOfMemory (Err OutOfMemory) = ⊥

-- the contract of a parser that allocates nothing and so never returns `OutOfMemory`
abbrev pub ReadsWithoutAllocation : Parser Step → cursors.CursorState → cursors.CursorState → Result Step (Failure LineFault) → Type 0
ReadsWithoutAllocation part old new read = ReadsOrOutOfMemory (λ s. s) part old new read × IsNotOutOfMemory read

-- the contract of a function that reads the operands of several forms: `None` if none of them has the word,
-- and then no token is consumed
unfoldable pub ReadsForm : Option Form → cursors.CursorState → cursors.CursorState → Option (Result Step (Failure LineFault)) → Type 0
ReadsForm form old new None = (form ≡ None) × (new ≡ old)
ReadsForm form old new (Some read) = IsSome form × ReadsOrOutOfMemory (λ s. s) (following form) old new read
