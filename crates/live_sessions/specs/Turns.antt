-- The lines of a session in order.
use Rattle.std.specs.Prelude.{◌≡◌, ◌⊎◌, ◌≤◌, ℕ, ℤ, Bool, false, List, [], ◌∷◌, ◌++◌, map, length, take, Option, Some}
use Rattle.std.specs.Prelude.{None, Result, Ok, Err}
use Rattle.std.specs.List.{flat_map, list_any}
use Rattle.std.specs.Option.{option_map_or}
use Rattle.std.specs.Io.KnownBytes.{Appends}
use Rattle.script_tokens.specs.Lines.{lines_of}
use Rattle.script_tokens.specs.TokenValue.{values_in}
use Rattle.bank_format.specs.declared.fault.Counts.{Counts}
use Rattle.mixer.specs.Pressed.{KeyEvent}
use Rattle.wave_file.specs.Wave.{sample_bytes}
use Rattle.live_lines.specs.declared.answer.Answer.{Answer}
use Rattle.live_lines.specs.declared.answer.Answer.TheVariants as answer
use Rattle.live_lines.specs.declared.fault.RequestFault.{RequestFault}
use Rattle.live_lines.specs.declared.request.Request.{Request}
use Rattle.live_lines.specs.Requests.{request_of}
use Rattle.live_lines.specs.Answers.{answer_text}
use Rattle.live_sessions.specs.declared.live.LiveState.{LiveState}
use Rattle.live_sessions.specs.declared.fault.LiveFault.{LiveFault}
use Rattle.live_sessions.specs.declared.fault.LiveFault.TheVariants as fault
use Rattle.live_sessions.specs.declared.saving.SessionFiles.{SessionFiles}
use Rattle.live_sessions.specs.AnswerTexts.{IsFaultAnswer}
use Rattle.live_sessions.specs.Steps.{RequestIs, StopsIn, FilesAfterRequest, events_of, frames_of, preamble_of, is_end}
pub use Rattle.live_sessions.specs.Streams.{Streams}
use Rattle.live_sessions.specs.Streams.{SavesNothing}

-- ---- one line

-- the request of a line, or its fault
abbrev pub RequestResult : Type 0
RequestResult = Result (Option Request) RequestFault

-- a request is answered, or a fault is reported
abbrev pub AnswerIs : List ℕ → RequestResult → LiveState → Answer → LiveState → Type 0
AnswerIs line (Ok None) old a new = ⊥
AnswerIs line (Ok (Some r)) old a new = RequestIs old r a new
AnswerIs line (Err f) old a new = IsFaultAnswer line f a × (new ≡ old)

-- A line without a request has no answer. Any answer may be replaced by out of memory, and nothing changes.
abbrev pub LineIs : List ℕ → RequestResult → LiveState → Option Answer → LiveState → Type 0
LineIs line asks old None new = (asks ≡ Ok None) × (new ≡ old)
LineIs line asks old (Some a) new = AnswerIs line asks old a new ⊎ ((a ≡ answer.OutOfMemory) × (new ≡ old))

-- a line without its line feed, the session before it and after it, and its answer
pub record Turn : Type 0 where
  pub line : List ℕ
  pub old : LiveState
  pub answer : Option Answer
  pub new : LiveState

abbrev pub request_in : Turn → RequestResult
request_in t = request_of (values_in t.line)

-- ---- what a line writes

-- what a request with this answer writes
abbrev pub answered : {X : Type 0} → RequestResult → Option Answer → (Request → Answer → List X) → List X
answered (Ok (Some r)) (Some a) f = f r a
answered asks a f = []

abbrev pub events_in : Turn → List KeyEvent
events_in t = answered (request_in t) t.answer (λ r a. events_of t.old r a t.new)

abbrev pub frames_in : Turn → List ℤ
frames_in t = answered (request_in t) t.answer (frames_of t.old)

-- the bytes of these frames, each sample little-endian
abbrev pub bytes_in : Turn → List ℕ
bytes_in t = flat_map sample_bytes (frames_in t)

-- the text before the answer, and the answer
abbrev pub text_in : Counts → Turn → List ℕ
text_in counts t = answered (request_in t) t.answer (preamble_of counts t.old) ++ option_map_or answer_text t.answer []

-- whether the session ends after a line
abbrev pub ends : RequestResult → Option Answer → Bool
ends (Ok (Some r)) (Some a) = is_end r a
ends asks a = false

abbrev pub ends_in : Turn → Bool
ends_in t = ends (request_in t) t.answer

-- the files after a line with this answer
abbrev pub FilesAfterAnswer : SessionFiles → RequestResult → LiveState → Option Answer → Streams → Streams → Type 0
FilesAfterAnswer own (Ok (Some r)) live (Some a) old new = FilesAfterRequest own live r a old new
FilesAfterAnswer own asks live a old new = SavesNothing old new

abbrev pub FilesAfterLine : SessionFiles → Turn → Streams → Streams → Type 0
FilesAfterLine own t old new = FilesAfterAnswer own (request_in t) t.old t.answer old new

-- ---- a line that is answered, or stops the session

-- a line is answered, and all that it writes is written
pub record Passes (own : SessionFiles) (counts : Counts) (t : Turn) (old new : Streams) : Type 0 where
  pub is : LineIs t.line (request_in t) t.old t.answer t.new
  pub answers : Appends old.answers new.answers (text_in counts t)
  pub pcm : Appends old.pcm new.pcm (bytes_in t)
  pub files : FilesAfterLine own t old new

-- a line is answered, but exactly the first `count` bytes of its text were written, which may be all
pub record StopsInAnswer (own : SessionFiles) (counts : Counts) (t : Turn) (old new : Streams)
    (count : ℕ) : Type 0 where
  pub is : LineIs t.line (request_in t) t.old t.answer t.new
  pub within : count ≤ length (text_in counts t)
  pub answers : Appends old.answers new.answers (take count (text_in counts t))
  pub pcm : Appends old.pcm new.pcm (bytes_in t)
  pub files : FilesAfterLine own t old new

-- a request stops before its answer
pub record StopsBefore (t : Turn) (old new : Streams) (why : LiveFault) : Type 0 where
  pub request : Request
  pub is : request_in t ≡ Ok (Some request)
  pub stops : StopsIn t.old request old new why
  pub answers : Appends old.answers new.answers []

-- a line at which the session stops
abbrev pub StopsAt : SessionFiles → Counts → Turn → Streams → Streams → LiveFault → Type 0
StopsAt own counts t old new (fault.Answers n) = StopsInAnswer own counts t old new n
StopsAt own counts t old new (fault.Pcm n) = StopsBefore t old new (fault.Pcm n)
StopsAt own counts t old new other = ⊥

-- ---- lines in order

-- each line is answered by the session after the lines before it
abbrev pub AreTurns : LiveState → List Turn → LiveState → Type 0
AreTurns first [] last = last ≡ first
AreTurns first (t ∷ ts) last =
    (t.old ≡ first) × LineIs t.line (request_in t) t.old t.answer t.new × AreTurns t.new ts last

-- these lines were read of known bytes
abbrev pub Reads : Option (List ℕ) → Option (List ℕ) → List (List ℕ) → Type 0
Reads None new lines = Unit {0}
Reads (Some bytes) None lines = ⊥
Reads (Some bytes) (Some left) lines = lines_of bytes ≡ lines ++ lines_of left

-- the files after these lines, each on those that the line before it left
abbrev pub FilesAfter : SessionFiles → List Turn → Streams → Streams → Type 0
FilesAfter own [] old new = SavesNothing old new
FilesAfter own (t ∷ ts) old new = (between : Streams) × FilesAfterLine own t old between × FilesAfter own ts between new

-- these lines were read and answered, none ends the session, and all that they write is written
pub record Passed (own : SessionFiles) (counts : Counts) (first : LiveState) (ts : List Turn) (last : LiveState)
    (old new : Streams) : Type 0 where
  pub turns : AreTurns first ts last
  pub going : list_any ends_in ts ≡ false
  pub input : Reads old.input new.input (map (λ (t : Turn). t.line) ts)
  pub answers : Appends old.answers new.answers (flat_map (text_in counts) ts)
  pub pcm : Appends old.pcm new.pcm (flat_map bytes_in ts)
  pub files : FilesAfter own ts old new
