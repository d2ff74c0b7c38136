-- How a session ends.
use Rattle.std.specs.Prelude.{◌≡◌, ◌≢◌, ◌⊎◌, ℕ, ◌-◌, ◌^◌, Bool, true, false, List, [], ◌∷◌, length, Option, Some}
use Rattle.std.specs.Prelude.{IsSomeAnd, Result, Ok, Err}
use Rattle.std.specs.declared.io.ErrorKind.{ErrorKind}
use Rattle.std.specs.declared.io.ErrorKind.TheVariants.{OutOfMemory}
use Rattle.std.specs.Io as io
use Rattle.std.specs.Io.KnownBytes.{Consumes, IsAtEnd}
use Rattle.script_tokens.specs.Lines.{lines_of}
use Rattle.live_sessions.specs.AnswerTexts.{is_last}
use Rattle.bank_parts.specs.declared.parts.Parts.{Parts}
use Rattle.bank_format.specs.declared.fault.Counts.{Counts}
use Rattle.bank_format.specs.ReadChecks.{ReadsAs, fault_of}
use Rattle.live_sessions.specs.declared.fault.LiveFault.{LiveFault}
use Rattle.live_sessions.specs.declared.fault.LiveFault.TheVariants as fault
use Rattle.live_sessions.specs.declared.live.LiveState.{LiveState}
use Rattle.live_sessions.specs.declared.requests.Next.{Next}
use Rattle.live_sessions.specs.declared.requests.Next.TheVariants as next
use Rattle.live_sessions.specs.declared.saving.SessionFiles.{SessionFiles}
use Rattle.live_sessions.specs.Steps.{started_with}
use Rattle.live_sessions.specs.Streams.{Streams, SavesNothing}
use Rattle.live_sessions.specs.Turns.{Turn, Reads, Passes, Passed, StopsAt, ends_in}

-- ---- the last line

-- the byte that ends a line
abbrev pub line_feed : ℕ
line_feed = 10

-- nothing was written, and no line was answered
pub record OnlyReads (between new : Streams) : Type 0 where
  pub answers : new.answers ≡ between.answers
  pub pcm : new.pcm ≡ between.pcm
  pub files : SavesNothing between new

-- a line ends the session
pub record Quits (own : SessionFiles) (counts : Counts) (last : LiveState) (between new : Streams) : Type 0 where
  pub turn : Turn
  pub begins : turn.old ≡ last
  pub input : Reads between.input new.input (turn.line ∷ [])
  pub passes : Passes own counts turn between new
  pub ends : ends_in turn ≡ true

-- a writer fails at a line
pub record Stops (own : SessionFiles) (counts : Counts) (last : LiveState) (between new : Streams)
    (why : LiveFault) : Type 0 where
  pub turn : Turn
  pub begins : turn.old ≡ last
  pub input : Reads between.input new.input (turn.line ∷ [])
  pub stops : StopsAt own counts turn between new why

-- the input is at its end, or a line ends the session
abbrev pub EndsWell : SessionFiles → Counts → LiveState → Streams → Streams → Type 0
EndsWell own counts last between new =
    (IsAtEnd between.input × OnlyReads between new) ⊎ Quits own counts last between new

-- A part of one line was read of known bytes, or all of it: only the last of these bytes can be a line feed.
abbrev pub ReadsPart : Option (List ℕ) → Option (List ℕ) → Type 0
ReadsPart old new = (bytes : List ℕ) × Consumes old new bytes × io.StopsAt bytes line_feed

-- no further line could be read, for this reason, and nothing was written
pub record Unread (between new : Streams) (failure : Option ErrorKind) (why : ErrorKind → Type 0) : Type 0 where
  pub failed : IsSomeAnd failure why
  pub part : ReadsPart between.input new.input
  pub only : OnlyReads between new

-- the end, or the fault: the last read failed by a failed allocation or for another reason, or a writer failed
abbrev pub EndsBy : SessionFiles → Counts → LiveState → Streams → Streams → Option ErrorKind
    → Result (Unit {0}) LiveFault → Type 0
EndsBy own counts last between new failure (Ok u) = EndsWell own counts last between new
EndsBy own counts last between new failure (Err (fault.File f)) = ⊥
EndsBy own counts last between new failure (Err fault.Memory) = Unread between new failure (λ kind. kind ≡ OutOfMemory)
EndsBy own counts last between new failure (Err fault.Input) = Unread between new failure (λ kind. kind ≢ OutOfMemory)
EndsBy own counts last between new failure (Err (fault.Answers n)) = Stops own counts last between new (fault.Answers n)
EndsBy own counts last between new failure (Err (fault.Pcm n)) = Stops own counts last between new (fault.Pcm n)

-- the most lines that a session reads
abbrev pub most_lines : ℕ
most_lines = 2 ^ 64 - 1

-- the most lines were answered, and nothing is read after them
abbrev pub IsFull : List Turn → Streams → Streams → Result (Unit {0}) LiveFault → Type 0
IsFull turns between new (Err fault.Input) = (length turns ≡ most_lines) × (new ≡ between)
IsFull turns between new other = ⊥

-- ---- the whole session

-- lines were answered, and then the session ended
pub record Plays (own : SessionFiles) (counts : Counts) (first : LiveState) (old new : Streams)
    (failure : Option ErrorKind) (r : Result (Unit {0}) LiveFault) : Type 0 where
  pub turns : List Turn
  pub last : LiveState
  pub between : Streams
  pub passed : Passed own counts first turns last old between
  pub end : EndsBy own counts last between new failure r ⊎ IsFull turns between new r

-- the file is read as a bank, with which the session begins
pub record PlaysBank (own : SessionFiles) (file : List ℕ) (old new : Streams) (failure : Option ErrorKind)
    (r : Result (Unit {0}) LiveFault) : Type 0 where
  pub bank : Parts
  pub counts : Counts
  pub reads : ReadsAs file bank counts
  pub plays : Plays own counts (started_with bank) old new failure r

-- nothing was read of the input, and nothing was written
abbrev pub IsUntouched : Streams → Streams → Type 0
IsUntouched old new = (new.input ≡ old.input) × OnlyReads old new

-- The result of a session. If its file is no bank, or an allocation fails while reading it, nothing is read of the
-- input and nothing is written. `failure` is why the last read of the input failed, if it did.
abbrev pub Runs : SessionFiles → List ℕ → Streams → Streams → Option ErrorKind → Result (Unit {0}) LiveFault → Type 0
Runs own file old new failure (Ok u) = PlaysBank own file old new failure (Ok u)
Runs own file old new failure (Err (fault.File f)) = (fault_of file ≡ Some f) × IsUntouched old new
Runs own file old new failure (Err fault.Memory) =
    IsUntouched old new ⊎ PlaysBank own file old new failure (Err fault.Memory)
Runs own file old new failure (Err fault.Input) = PlaysBank own file old new failure (Err fault.Input)
Runs own file old new failure (Err (fault.Answers n)) = PlaysBank own file old new failure (Err (fault.Answers n))
Runs own file old new failure (Err (fault.Pcm n)) = PlaysBank own file old new failure (Err (fault.Pcm n))

-- ---- one line of a session

-- this line is answered; whether it ends the session
pub record Answers (own : SessionFiles) (counts : Counts) (line : List ℕ) (live live_new : LiveState)
    (old new : Streams) (ending : Bool) : Type 0 where
  pub turn : Turn
  pub line_is : turn.line ≡ line
  pub begins : turn.old ≡ live
  pub leaves : turn.new ≡ live_new
  pub passes : Passes own counts turn old new
  pub ends : ends_in turn ≡ ending

-- a writer fails at this line
pub record StopsLine (own : SessionFiles) (counts : Counts) (line : List ℕ) (live : LiveState) (old new : Streams)
    (why : LiveFault) : Type 0 where
  pub turn : Turn
  pub line_is : turn.line ≡ line
  pub begins : turn.old ≡ live
  pub stops : StopsAt own counts turn old new why

abbrev pub IsLineResult : SessionFiles → Counts → List ℕ → LiveState → LiveState → Streams → Streams
    → Result Next LiveFault → Type 0
IsLineResult own counts line live live_new old new (Ok n) = Answers own counts line live live_new old new (is_last n)
IsLineResult own counts line live live_new old new (Err why) = StopsLine own counts line live old new why

-- the line was read before it was answered
pub record Continues (own : SessionFiles) (counts : Counts) (live live_new : LiveState)
    (old new : Streams) : Type 0 where
  pub line : List ℕ
  pub input : Reads old.input new.input (line ∷ [])
  pub answers : Answers own counts line live live_new old new false

-- the result of the next line
abbrev pub IsNextLineResult : SessionFiles → Counts → LiveState → LiveState → Streams → Streams → Option ErrorKind
    → Result Next LiveFault → Type 0
IsNextLineResult own counts live live_new old new failure (Ok next.Line) = Continues own counts live live_new old new
IsNextLineResult own counts live live_new old new failure (Ok next.End) = EndsWell own counts live old new
IsNextLineResult own counts live live_new old new failure (Err why) = EndsBy own counts live old new failure (Err why)

-- ---- how a line is read

-- the first line of a text; empty for an empty text
abbrev pub IsFirst : List (List ℕ) → List ℕ → Type 0
IsFirst [] line = line ≡ []
IsFirst (l ∷ ls) line = line ≡ l

-- These bytes were read up to a line feed or the end of the input, and are one line; or the input is at its end.
abbrev pub IsRead : Bool → Option (List ℕ) → Option (List ℕ) → List ℕ → Type 0
IsRead true old new bytes = (line : List ℕ) → IsFirst (lines_of bytes) line → Reads old new (line ∷ [])
IsRead false old new bytes = IsAtEnd old

-- the fault of a line that could not be read or did not fit into memory
abbrev pub IsReadFault : ErrorKind → LiveFault → Type 0
IsReadFault kind fault.Memory = kind ≡ OutOfMemory
IsReadFault kind fault.Input = kind ≢ OutOfMemory
IsReadFault kind other = ⊥
