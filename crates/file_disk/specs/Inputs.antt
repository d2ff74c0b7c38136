-- What is still to be read of a file.
use Rattle.std.specs.Prelude.{◌≡◌, ℕ, List, [], ◌++◌, length, Option, Some, None, Result, Ok, Err, true}
use Rattle.std.specs.Prelude.{if◌then◌else◌, nat_le, ⊤}
use Rattle.sf_base.specs.declared.memory.Failure.{Failure}
use Rattle.sf_base.specs.declared.memory.Failure.TheVariants.{Fault, OutOfMemory}
use Rattle.file_host.specs.declared.input_fault.InputFault.{InputFault}
use Rattle.file_host.specs.declared.input_fault.InputFault.TheVariants.{TooLong}
use Rattle.file_host.specs.World.{World, most_bytes, file_at, stores_at}

-- The bytes still to be read, and the fault in which reading then ends, if it does.
pub record Unread : Type 0 where
  pub bytes : List ℕ
  pub fault : Option InputFault

-- what is given after these bytes
abbrev pub ending : List ℕ → Option InputFault → Result (List ℕ) InputFault
ending bytes None = Ok bytes
ending bytes (Some fault) = Err fault

-- what a read to the end gives: only a file within the limit is read to its end
abbrev pub given : Unread → Result (List ℕ) InputFault
given unread = if nat_le (length unread.bytes) most_bytes then ending unread.bytes unread.fault else Err TooLong

-- a file was opened, of which a read to the end gives what the world says
abbrev pub Opens : Option World → List ℕ → Option Unread → Type 0
Opens None path unread = ⊤
Opens (Some world) path None = stores_at world path ≡ true → ⊥
Opens (Some world) path (Some unread) = stores_at world path ≡ true → given unread ≡ file_at world path

-- these are the next bytes of what was to be read
abbrev pub ReadsOn : Option Unread → Option Unread → List ℕ → Type 0
ReadsOn None new bytes = ⊤
ReadsOn (Some old) None bytes = ⊥
ReadsOn (Some old) (Some new) bytes = (old.bytes ≡ bytes ++ new.bytes) × (new.fault ≡ old.fault)

-- all is read, without a fault
abbrev pub IsAllRead : Option Unread → Type 0
IsAllRead None = ⊤
IsAllRead (Some unread) = (unread.bytes ≡ []) × (unread.fault ≡ None)

-- reading ends in this fault, after all bytes; there may be no memory at any time
abbrev pub StopsReading : Option Unread → Failure InputFault → Type 0
StopsReading None failure = ⊤
StopsReading (Some unread) (Fault fault) = (unread.bytes ≡ []) × (unread.fault ≡ Some fault)
StopsReading (Some unread) OutOfMemory = ⊤

-- a read to the end gives this
abbrev pub GivesAll : Option Unread → Result (List ℕ) InputFault → Type 0
GivesAll None result = ⊤
GivesAll (Some unread) result = given unread ≡ result

-- reading to the end failed as it must, or an allocation failed
abbrev pub FailsAs : Option Unread → Failure InputFault → Type 0
FailsAs unread (Fault fault) = GivesAll unread (Err fault)
FailsAs unread OutOfMemory = ⊤

-- The most bytes that are read: one more than the longest file, to detect that a file is too long.
abbrev pub most_read : ℕ
most_read = 4294967304

-- The next bytes of what was to be read are appended; no bytes mean that all is read.
pub record ReadsPiece (old new : Option Unread) (before after : List ℕ) (n : ℕ) : Type 0 where
  pub piece : List ℕ
  pub appended : after ≡ before ++ piece
  pub counted : length piece ≡ n
  pub reads : ReadsOn old new piece
  pub end : n ≡ 0 → IsAllRead old
