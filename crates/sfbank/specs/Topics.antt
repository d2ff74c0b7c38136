-- What is printed about a topic of `explain`.
use Rattle.std.specs.Prelude.{◌≡◌, ℕ, List, []}
use Rattle.program_commands.specs.declared.explain.Topic.{Topic}
use Rattle.program_commands.specs.declared.explain.Topic.TheVariants.{Number, Name, Generators}
use Rattle.program_explanations.specs.declared.explanations.Explanation.{Explanation}
use Rattle.program_explanations.specs.declared.explanations.FaultCode.{FaultCode}
use Rattle.program_explanations.specs.Explanations.{number_of, IsOfNumber, AreOfName, explanation_text, explanations_text}
use Rattle.program_explanations.specs.GeneratorTable.{table_text}

-- The text about a topic: the explanation of the fault or refusal with its number, those of all with its name, or the
-- table of generators.
abbrev pub IsTopicText : Topic → List ℕ → Type 0
IsTopicText (Number n) text = (e : Explanation) × IsOfNumber n e.number e.name.now × (text ≡ explanation_text e)
IsTopicText (Name name) text = (found : List Explanation) × AreOfName name.now found × (text ≡ explanations_text found)
IsTopicText Generators text = text ≡ table_text

-- no fault and no refusal has the number or the name
abbrev pub IsUnexplained : Topic → Type 0
IsUnexplained (Number n) = (code : FaultCode) → number_of code ≡ n → ⊥
IsUnexplained (Name name) = AreOfName name.now []
IsUnexplained Generators = ⊥
