-- The text that a request writes before its answer, and how the text that answers a line is written.
use Rattle.std.specs.Prelude.{◌≡◌, ◌≤◌, IfSome, ℕ, Bool, true, false, List, [], length, take, Option, Result, Ok, Err}
use Rattle.std.specs.Option.{option_map_or}
use Rattle.std.specs.Io.KnownBytes.{Appends}
use Rattle.bank_parts.specs.declared.parts.Parts.{Parts}
use Rattle.bank_format.specs.declared.fault.Counts.{Counts}
use Rattle.show_listing.specs.Listing.{listing}
use Rattle.inverse_edits.specs.Histories.{bank_now}
use Rattle.live_lines.specs.declared.request.Request.{Request}
use Rattle.live_lines.specs.declared.request.Request.TheVariants as asks
use Rattle.live_lines.specs.declared.help.TheConstants.{HELP}
use Rattle.sf_base.specs.declared.memory.Failure.{Failure}
use Rattle.sf_base.specs.declared.memory.Failure.TheVariants as failures
use Rattle.live_lines.specs.Comments.{ShowsPart}
use Rattle.live_lines.specs.declared.answer.Answer.{Answer}
use Rattle.live_lines.specs.declared.answer.Answer.TheVariants as answer
use Rattle.live_lines.specs.declared.fault.RequestFault.{RequestFault}
use Rattle.live_sessions.specs.declared.live.LiveState.{LiveState}
use Rattle.live_sessions.specs.declared.requests.Next.{Next}
use Rattle.live_sessions.specs.declared.requests.Next.TheVariants as next
use Rattle.live_sessions.specs.declared.requests.RequestKind.{RequestKind}
use Rattle.live_sessions.specs.declared.requests.RequestKind.TheVariants as kind
use Rattle.live_sessions.specs.declared.fault.LiveFault.{LiveFault}
use Rattle.live_sessions.specs.declared.fault.LiveFault.TheVariants as fault

abbrev pub kind_of : Request → RequestKind
kind_of asks.Show = kind.Show
kind_of asks.Help = kind.Help
kind_of asks.Quit = kind.Quit
kind_of other = kind.Plain

-- the listing of the current bank, with the counts of reading its file
abbrev pub listing_now : Counts → LiveState → List ℕ
listing_now counts s = option_map_or (λ (b : Parts). listing b counts) (bank_now s.session) []

abbrev pub preamble : Counts → LiveState → RequestKind → List ℕ
preamble counts s kind.Show = listing_now counts s
preamble counts s kind.Help = HELP.now
preamble counts s kind.Plain = []
preamble counts s kind.Quit = []

-- the session ends after a request of this kind
abbrev pub next_of : RequestKind → Next
next_of kind.Quit = next.End
next_of kind.Show = next.Line
next_of kind.Help = next.Line
next_of kind.Plain = next.Line

abbrev pub is_last : Next → Bool
is_last next.Line = false
is_last next.End = true

-- the answer reports a fault; its comment, if there is one, shows a part of the line
abbrev pub IsFaultAnswer : List ℕ → RequestFault → Answer → Type 0
IsFaultAnswer line f (answer.Fault g comment) = (g ≡ f) × IfSome comment (ShowsPart line)
IsFaultAnswer line f other = ⊥

-- the answer to a line with a fault or a failed allocation
abbrev pub IsFailureAnswer : List ℕ → Failure RequestFault → Answer → Type 0
IsFailureAnswer line (failures.Fault f) a = IsFaultAnswer line f a
IsFailureAnswer line failures.OutOfMemory a = a ≡ answer.OutOfMemory

-- The text is written whole; with a fault exactly its first `n` bytes are, which may be all.
abbrev pub IsWritten : {U : Type 0} → Option (List ℕ) → Option (List ℕ) → List ℕ → Result U LiveFault → Type 0
IsWritten old new text (Ok u) = Appends old new text
IsWritten old new text (Err (fault.Answers n)) = (n ≤ length text) × Appends old new (take n text)
IsWritten old new text (Err other) = ⊥
