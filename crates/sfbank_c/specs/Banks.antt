-- What the calls of a bank do.
use Rattle.std.specs.Prelude.{◌==◌, ℕ, ℤ, pos, cond, List, [], ◌∷◌, ◌++◌, Option, Some, None, Result, Ok, Err}
use Rattle.std.specs.Prelude.{slice_get}
use Rattle.std.specs.Option.{option_map, option_map_or}
use Rattle.sf_base.specs.Names.{filled}
use Rattle.bank_changes.specs.declared.members.List.{List as BankList}
use Rattle.bank_changes.specs.declared.members.List.TheVariants.{Presets, Instruments, Samples}
use Rattle.bank_changes.specs.Members.{member_count, head_of, instrument_name_of}
use Rattle.bank_parts.specs.declared.parts.Head.{Head}
use Rattle.bank_parts.specs.declared.parts.Sample.{Sample}
use Rattle.bank_parts.specs.declared.parts.Parts.{Parts}
use Rattle.bank_format.specs.declared.fault.ReadFault.{ReadFault}
use Rattle.bank_format.specs.Chunks.{window}
use Rattle.bank_format.specs.FaultNames.{number_of}
use Rattle.bank_format.specs.Reading.{content_in}
use Rattle.inverse_edits.specs.Histories.{History, bank_now, new_history}
use Rattle.sfbank_c.specs.declared.open_bank.OpenBank.{OpenBank}
use Rattle.sfbank_c.specs.declared.status.TheConstants.{BAD_LENGTH, BAD_LIST, NO_MEMBER}

-- the number of the first check that a file fails, or 0
abbrev pub read_status : Option ReadFault → ℤ
read_status None = pos 0
read_status (Some fault) = pos (number_of fault)

-- the bank of a file, with empty undo and redo lists
abbrev pub opened : List ℕ → OpenBank
opened file = record { session = new_history (content_in (window file)).bank }

-- what f reads of the current bank, if there is one
abbrev pub of_bank : {X : Type 0} → X → (Parts → X) → List OpenBank → X
of_bank none f [] = none
of_bank none f (b ∷ _) = option_map_or f (bank_now b.session) none

-- how a call changes the history of an open bank
abbrev pub OnBank : (History → History → Type 0) → List OpenBank → List OpenBank → Type 0
OnBank P [] [] = Unit {0}
OnBank P (b ∷ _) (c ∷ _) = P b.session c.session
OnBank P old new = ⊥

-- ---- members

-- the list of a bank with this number
abbrev pub list_of : ℕ → Option BankList
list_of n =
    cond (n == 0) (Some Presets) (cond (n == 1) (Some Instruments) (cond (n == 2) (Some Samples) None))

abbrev pub list_status : Option BankList → ℤ
list_status None = BAD_LIST
list_status (Some list) = pos 0

-- the length of a list
abbrev pub count_in : Option BankList → Parts → ℕ
count_in None b = 0
count_in (Some list) b = member_count b list

-- the name of a member, if there is one with this number
abbrev pub name_at : Parts → BankList → ℕ → Option (List ℕ)
name_at b Presets n = option_map (λ (h : Head). h.name) (head_of b n)
name_at b Instruments n = instrument_name_of b n
name_at b Samples n = option_map (λ (s : Sample). s.name) (slice_get b.samples n)

-- a member, or the error
abbrev pub found : {X : Type 0} → Option X → Result X ℤ
found None = Err NO_MEMBER
found (Some x) = Ok x

-- the name of a member, or the error
abbrev pub member_name : Option BankList → ℕ → Parts → Result (List ℕ) ℤ
member_name None n b = Err BAD_LIST
member_name (Some list) n b = found (name_at b list n)

-- the bytes of a name, and zero bytes after it, 21 in all
abbrev pub text_of_name : Result (List ℕ) ℤ → List ℕ
text_of_name (Ok name) = filled name ++ 0 ∷ []
text_of_name (Err why) = []

abbrev pub name_status : ℕ → Result (List ℕ) ℤ → ℤ
name_status size (Ok name) = cond (size == 21) (pos 0) BAD_LENGTH
name_status size (Err why) = why

-- ---- presets

-- the head of a preset, or the error
abbrev pub head_status : Option Head → ℤ
head_status None = NO_MEMBER
head_status (Some head) = pos 0

-- the number of a preset's bank, and its number there
abbrev pub numbers_of : Option Head → ℕ × ℕ
numbers_of None = (0, 0)
numbers_of (Some head) = (head.bank, head.number)
