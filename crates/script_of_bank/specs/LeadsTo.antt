-- The edits that list a bank lead to it from the empty bank.
use Rattle.std.specs.Prelude.{◌≡◌, ◌++◌, List}
use Rattle.bank_parts.specs.declared.parts.Parts.{Parts}
use Rattle.bank_parts.specs.Sound.{IsSound}
use Rattle.edit_forms.specs.declared.edit.Edit.{Edit}
use Rattle.bank_edits.specs.Runs.{AllAccepted, after_all, undo_list}
use Rattle.script_of_bank.specs.BankEdits.{empty, edits_of_bank}

-- each of the edits is accepted in order, and they lead to the other bank
pub record Leads (from : Parts) (es : List Edit) (to : Parts) : Type 0 where
  pub is_accepted : AllAccepted from es
  pub given : after_all from es ≡ to

-- from the empty bank
abbrev pub GivesBank : Type 0
GivesBank = (b : Parts) → IsSound b → Leads (empty b.minor) (edits_of_bank b) b

-- edits that remove all parts of a bank, and then edits that create the other
abbrev pub edits_between : Parts → Parts → List Edit
edits_between a b = undo_list (empty a.minor) (edits_of_bank a) ++ edits_of_bank b

-- from any bank to any other of its minor version
abbrev pub LeadsAnywhere : Type 0
LeadsAnywhere = (a b : Parts) → IsSound a → IsSound b → a.minor ≡ b.minor → Leads a (edits_between a b) b
