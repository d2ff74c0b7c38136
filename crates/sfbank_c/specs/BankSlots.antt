-- What C passes as the handle of a bank, as a list: none for null, else the handle.
use Rattle.std.specs.Prelude.{ℤ, List, [], ◌∷◌}
use Rattle.sfbank_c.specs.declared.open_bank.OpenBank.{OpenBank}
use Rattle.sfbank_c.specs.declared.bank_handle.BankHandle.{BankHandle}
use Rattle.sfbank_c.specs.declared.status.TheConstants.{NULL, NOT_OPEN, IN_USE}

-- the bank that the handle owns, if it is open
abbrev pub bank_in : List BankHandle → List OpenBank
bank_in [] = []
bank_in (h ∷ _) = h.sealed.held

abbrev pub if_open : List OpenBank → ℤ → ℤ
if_open [] status = NOT_OPEN
if_open (_ ∷ _) status = status

-- the error of a handle that is null or closed, or this status for an open one
abbrev pub open_status : List BankHandle → ℤ → ℤ
open_status [] status = NULL
open_status (h ∷ _) status = if_open h.sealed.held status

abbrev pub if_closed : List OpenBank → ℤ → ℤ
if_closed [] status = status
if_closed (_ ∷ _) status = IN_USE

-- the error of a handle that is null or open, or this status for a closed one
abbrev pub closed_status : List BankHandle → ℤ → ℤ
closed_status [] status = NULL
closed_status (h ∷ _) status = if_closed h.sealed.held status
