-- What a script does to a session.
use Rattle.std.specs.Prelude.{◌≡◌, ℕ, ℤ, pos, List, [], ◌∷◌, ◌++◌, Result, Ok, Err}
use Rattle.edit_refusals.specs.RefusalNames.{refusal_number}
use Rattle.script_tokens.specs.Faults as faults
use Rattle.script_tokens.specs.Pool.{pool_bytes}
use Rattle.edit_script.specs.declared.parsing.Line.{Line}
use Rattle.edit_script.specs.Script.{script_of}
use Rattle.inverse_edits.specs.Histories.{History, IsEdited, IsRefusalNow}
use Rattle.sfbank_c.specs.declared.scripts.RefusedLine.{RefusedLine}
use Rattle.sfbank_c.specs.declared.scripts.ScriptStop.{ScriptStop}
use Rattle.sfbank_c.specs.declared.scripts.ScriptStop.TheVariants.{BadPool, Fault, OutOfMemory, Refused}
use Rattle.sfbank_c.specs.declared.status.TheConstants as status

-- the session accepts the edits of these lines in turn, and they lead to another
abbrev pub AreDone : History → List Line → History → Type 0
AreDone old [] new = new ≡ old
AreDone old (l ∷ lines) new = (h : History) × IsEdited old h l.edit × AreDone h lines new

-- the edits before a line are done, and its own is refused
pub record IsStopped (old new : History) (lines : List Line) (stop : RefusedLine) : Type 0 where
  pub before : List Line
  pub line : Line
  pub after : List Line
  pub parts : lines ≡ before ++ line ∷ after
  pub done : AreDone old before new
  pub refused : IsRefusalNow new line.edit stop.why
  pub number : stop.number ≡ line.number

-- what lines do: all edits are done, or those before the first that is refused
abbrev pub RunsLines : {U : Type 0} → History → History → List Line → Result U RefusedLine → Type 0
RunsLines old new lines (Ok u) = AreDone old lines new
RunsLines old new lines (Err stop) = IsStopped old new lines stop

-- the text has these literals and these lines, and runs
pub record IsRun {U : Type 0} (old new : History) (script pool : List ℕ) (r : Result U RefusedLine) : Type 0 where
  pub lines : List Line
  pub literals : pool_bytes script ≡ Ok pool
  pub read : script_of script ≡ Ok lines
  pub runs : RunsLines old new lines r

-- the pool of the text is another
pub record IsOther (script pool : List ℕ) : Type 0 where
  pub literals : List ℕ
  pub is_pool : pool_bytes script ≡ Ok literals
  pub other : literals ≡ pool → ⊥

-- the pool is that of the text, or not, or the text has a malformed literal
abbrev pub ChecksPool : {U : Type 0} → List ℕ → List ℕ → Result U ScriptStop → Type 0
ChecksPool script pool (Ok u) = pool_bytes script ≡ Ok pool
ChecksPool script pool (Err BadPool) = IsOther script pool
ChecksPool script pool (Err (Fault fault)) = pool_bytes script ≡ Err fault
ChecksPool script pool (Err OutOfMemory) = Unit {0}
ChecksPool script pool (Err (Refused stop)) = ⊥

-- What a script does. Before its first edit it stops for a pool that is not its own, for a fault or out of memory, and
-- nothing changes.
abbrev pub RunsScript : {U : Type 0} → History → History → List ℕ → List ℕ → Result U ScriptStop → Type 0
RunsScript old new script pool (Ok u) = IsRun old new script pool (Ok u)
RunsScript old new script pool (Err (Refused stop)) = IsRun {U = Unit {0}} old new script pool (Err stop)
RunsScript old new script pool (Err (Fault fault)) = (script_of script ≡ Err fault) × (new ≡ old)
RunsScript old new script pool (Err BadPool) = IsOther script pool × (new ≡ old)
RunsScript old new script pool (Err OutOfMemory) = new ≡ old

-- ---- for C

-- the number of the error
abbrev pub stop_number : ScriptStop → ℤ
stop_number BadPool = status.BAD_POOL
stop_number (Fault fault) = pos (faults.number_of fault)
stop_number OutOfMemory = status.OUT_OF_MEMORY
stop_number (Refused stop) = pos (refusal_number stop.why)

-- the line that stops a script, counted from 1; 0 for none
abbrev pub stop_line : ScriptStop → ℕ
stop_line BadPool = 0
stop_line (Fault fault) = faults.line_of fault
stop_line OutOfMemory = 0
stop_line (Refused stop) = stop.number

abbrev pub script_status : {U : Type 0} → Result U ScriptStop → ℤ
script_status (Ok u) = pos 0
script_status (Err stop) = stop_number stop

abbrev pub script_line : {U : Type 0} → Result U ScriptStop → ℕ
script_line (Ok u) = 0
script_line (Err stop) = stop_line stop

-- what a script does, with its status and line
pub record AnswersScript (old new : History) (script pool : List ℕ) (status : ℤ) (line : ℕ) : Type 0 where
  pub result : Result (Unit {0}) ScriptStop
  pub runs : RunsScript old new script pool result
  pub status_is : status ≡ script_status result
  pub line_is : line ≡ script_line result
