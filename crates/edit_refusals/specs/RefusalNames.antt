-- The number and the name of each refusal, as fault lines print them.
use Rattle.std.specs.Prelude.{ℕ, List, codes}
use Rattle.edit_forms.specs.CauseNames.{number_of, name_of}
use Rattle.edit_refusals.specs.declared.refusal.Refusal.{Refusal}
use Rattle.edit_refusals.specs.declared.refusal.Refusal.TheVariants.{Of, OutOfMemory, NothingToUndo, NothingToRedo}
use Rattle.edit_refusals.specs.declared.refusal.Refusal.TheVariants.{GroupRefused}

abbrev pub refusal_number : Refusal → ℕ
refusal_number (Of cause) = number_of cause
refusal_number OutOfMemory = 38
refusal_number NothingToUndo = 39
refusal_number NothingToRedo = 40
refusal_number (GroupRefused place cause) = 48

abbrev pub refusal_name : Refusal → List ℕ
refusal_name (Of cause) = name_of cause
refusal_name OutOfMemory = codes "OutOfMemory"
refusal_name NothingToUndo = codes "NothingToUndo"
refusal_name NothingToRedo = codes "NothingToRedo"
refusal_name (GroupRefused place cause) = codes "GroupRefused"
