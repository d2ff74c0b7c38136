-- The request of a line of a live session, or its fault.
use Rattle.std.specs.Prelude.{ℕ, List, [], ◌∷◌, codes, Option, Some, None, Result, Ok, Err, Bool, true, false, not}
use Rattle.std.specs.Prelude.{IsTrue, if◌then◌else◌}
use Rattle.std.specs.List.{list_all, list_any}
use Rattle.sf_base.specs.declared.memory.Failure.{Failure}
use Rattle.sf_base.specs.declared.memory.Failure.TheVariants as failures
use Rattle.script_tokens.specs.declared.cursor.TokenValue.{TokenValue}
use Rattle.script_tokens.specs.declared.cursor.TokenValue.TheVariants.{Word, Literal, Malformed}
use Rattle.script_tokens.specs.declared.fault.LineFault.{LineFault}
use Rattle.script_tokens.specs.Lines.{is_feed}
use Rattle.script_tokens.specs.Parsers.{Parsed, Parser, ◌>>=◌, pure, most_word, most_double_word, number, ended}
use Rattle.script_grammar.specs.Names.{next_named}
use Rattle.edit_script.specs.Grammar.{edit}
use Rattle.script_notes.specs.declared.limits.TheConstants.{HIGHEST_KEY, HIGHEST_VELOCITY, LAST_FRAME}
use Rattle.script_notes.specs.Notes.{Numbers, note_of}
use Rattle.live_lines.specs.declared.command.Command.{Command}
use Rattle.live_lines.specs.declared.command.Command.TheVariants as command
use Rattle.live_lines.specs.declared.fault.RequestFault.{RequestFault}
use Rattle.live_lines.specs.declared.fault.RequestFault.TheVariants as faults
use Rattle.live_lines.specs.declared.pedal.PedalMove.{PedalMove}
use Rattle.live_lines.specs.declared.pedal.PedalPosition.{PedalPosition}
use Rattle.live_lines.specs.declared.pedal.PedalPosition.TheVariants as position
use Rattle.live_lines.specs.declared.request.Key.{Key}
use Rattle.live_lines.specs.declared.request.Request.{Request}
use Rattle.live_lines.specs.declared.request.Request.TheVariants as asks
use Rattle.live_lines.specs.declared.request.TheConstants.{MOST_FRAMES}
use Rattle.live_lines.specs.Faults.{of_line}
use Rattle.live_lines.specs.Paths.{one_path, paths}

-- ---- the commands

-- the word of a command
abbrev pub command_word : Command → List ℕ
command_word command.Neutral = codes "neutral"
command_word command.Undo = codes "undo"
command_word command.Redo = codes "redo"
command_word command.Note = codes "note"
command_word command.Press = codes "press"
command_word command.Release = codes "release"
command_word command.Pedal = codes "pedal"
command_word command.Silence = codes "silence"
command_word command.Stop = codes "stop"
command_word command.Frames = codes "frames"
command_word command.Record = codes "record"
command_word command.Save = codes "save"
command_word command.Voices = codes "voices"
command_word command.Meter = codes "meter"
command_word command.Show = codes "show"
command_word command.Help = codes "help"
command_word command.Quit = codes "quit"

abbrev pub commands : List Command
commands =
    command.Neutral ∷ command.Undo ∷ command.Redo ∷ command.Note ∷ command.Press ∷ command.Release ∷ command.Pedal
    ∷ command.Silence ∷ command.Stop ∷ command.Frames ∷ command.Record ∷ command.Save ∷ command.Voices ∷ command.Meter
    ∷ command.Show ∷ command.Help ∷ command.Quit ∷ []

-- where a pedal is moved to
abbrev pub position_word : PedalPosition → List ℕ
position_word position.On = codes "on"
position_word position.Off = codes "off"

abbrev pub positions : List PedalPosition
positions = position.On ∷ position.Off ∷ []

-- ---- what follows the word

-- the request or the fault of a line
abbrev pub RequestResult : Type 0
RequestResult = Result Request RequestFault

-- a request or a fault, and not out of memory
abbrev pub IsNotOutOfMemory : Result Request (Failure RequestFault) → Type 0
IsNotOutOfMemory (Ok r) = Unit {0}
IsNotOutOfMemory (Err (failures.Fault fault)) = Unit {0}
IsNotOutOfMemory (Err failures.OutOfMemory) = ⊥

-- a request made of the value of a part, or the part's fault
abbrev pub made_request : {X : Type 0} → (X → Request) → Result (Parsed X) LineFault → RequestResult
made_request f (Ok t) = Ok (f t.value)
made_request f (Err e) = Err (of_line e)

-- the numbers of a note that starts now, to the line's end: a note, or `None` if it is too long
unfoldable pub note_now : Parser (Option Numbers)
note_now = do
  l ← number most_double_word
  b ← number most_word
  n ← number most_word
  k ← number HIGHEST_KEY
  v ← number HIGHEST_VELOCITY
  u ← ended (tt {0})
  pure (note_of (record { start = 0; length = l; bank = b; number = n; key = k; velocity = v }))

-- the numbers of a note that starts now and may be held as long as any, to the line's end
unfoldable pub note_held : Parser (Option Numbers)
note_held = do
  b ← number most_word
  n ← number most_word
  k ← number HIGHEST_KEY
  v ← number HIGHEST_VELOCITY
  u ← ended (tt {0})
  pure (note_of (record { start = 0; length = LAST_FRAME; bank = b; number = n; key = k; velocity = v }))

-- the request of the note, unless it is too long
abbrev pub in_time : (Numbers → Request) → Option Numbers → RequestResult
in_time f (Some note) = Ok (f note)
in_time f None = Err faults.TooLong

-- the request of the note, or `BadNote` for any fault of its numbers
abbrev pub noted : (Numbers → Request) → Result (Parsed (Option Numbers)) LineFault → RequestResult
noted f (Ok t) = in_time f t.value
noted f (Err e) = Err faults.BadNote

-- the numbers of a key, to the line's end
unfoldable pub key : Parser Key
key = do
  b ← number most_word
  n ← number most_word
  k ← number HIGHEST_KEY
  ended (record { bank = b; number = n; key = k })

-- `on` or `off`, and the preset of a pedal, to the line's end
unfoldable pub pedal : Parser PedalMove
pedal = do
  p ← next_named position_word positions
  b ← number most_word
  n ← number most_word
  ended (record { position = p; pedal = record { bank = b; number = n } })

-- a number of frames, to the line's end
unfoldable pub frames : Parser ℕ
frames = do
  n ← number MOST_FRAMES
  ended n

-- the request of a command, by the rest of its line
abbrev pub request_by : Command → List TokenValue → RequestResult
request_by command.Neutral line = made_request asks.Neutral (edit line)
request_by command.Undo line = made_request (λ r. r) (ended asks.Undo line)
request_by command.Redo line = made_request (λ r. r) (ended asks.Redo line)
request_by command.Note line = noted asks.Note (note_now line)
request_by command.Press line = noted asks.Press (note_held line)
request_by command.Release line = made_request asks.Release (key line)
request_by command.Pedal line = made_request asks.Pedal (pedal line)
request_by command.Silence line = made_request (λ r. r) (ended asks.Silence line)
request_by command.Stop line = made_request (λ r. r) (ended asks.Stop line)
request_by command.Frames line = made_request asks.Frames (frames line)
request_by command.Record line = made_request asks.Record (one_path line)
request_by command.Save line = made_request asks.Save (paths line)
request_by command.Voices line = made_request (λ r. r) (ended asks.Voices line)
request_by command.Meter line = made_request (λ r. r) (ended asks.Meter line)
request_by command.Show line = made_request (λ r. r) (ended asks.Show line)
request_by command.Help line = made_request (λ r. r) (ended asks.Help line)
request_by command.Quit line = made_request (λ r. r) (ended asks.Quit line)

-- ---- a whole line

-- the request of a command, if the line begins with one; else an edit
abbrev pub by_command : List TokenValue → Result (Parsed Command) LineFault → RequestResult
by_command line (Ok t) = request_by t.value t.rest
by_command line (Err e) = made_request asks.Edit (edit line)

unfoldable pub request : List TokenValue → RequestResult
request line = by_command line (next_named command_word commands line)

-- a request, if there is one
abbrev pub some_request : RequestResult → Result (Option Request) RequestFault
some_request (Ok r) = Ok (Some r)
some_request (Err e) = Err e

-- a line without tokens has no request
abbrev pub if_any : List TokenValue → Result (Option Request) RequestFault
if_any [] = Ok None
if_any (s ∷ line) = some_request (request (s ∷ line))

-- a malformed literal
abbrev pub is_bad : TokenValue → Bool
is_bad (Word w) = false
is_bad (Literal bytes) = false
is_bad Malformed = true

-- a line without line feed
abbrev pub HasNoFeed : List ℕ → Type 0
HasNoFeed line = IsTrue (list_all (λ b. not (is_feed b)) line)

-- The request of a line, or its fault: a malformed literal anywhere in it, else the first fault from left to right.
unfoldable pub request_of : List TokenValue → Result (Option Request) RequestFault
request_of token_values = if list_any is_bad token_values then Err faults.Literal else if_any token_values
