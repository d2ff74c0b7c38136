-- One request.
use Rattle.std.proofs.Common.{◌≡◌, ℕ, ℤ, List, [], Option, sym, subst}
use Rattle.std.specs.List.{flat_map}
use Rattle.std.specs.Io.KnownBytes.{Appends}
use Rattle.std.proofs.KnownBytes.{Appends-nil}
use Rattle.file_host.specs.World.{World}
use Rattle.wave_file.specs.Wave.{sample_bytes}
use Rattle.live_lines.specs.declared.answer.Answer.{Answer}
use Rattle.live_lines.specs.declared.answer.Answer.TheVariants as answer
use Rattle.live_lines.specs.declared.request.Request.{Request}
use Rattle.live_lines.specs.declared.request.Request.TheVariants as asks
use Rattle.live_sessions.specs.declared.live.LiveState.{LiveState}
use Rattle.live_sessions.specs.declared.fault.LiveFault.{LiveFault}
use Rattle.live_sessions.specs.declared.saving.SessionFiles.{SessionFiles}
use Rattle.live_sessions.specs.Streams.{Streams, SavesNothing}
use Rattle.live_sessions.specs.Steps.{RequestIs, Does, StopsIn, FilesAfterRequest, frames_of}

abbrev pub with_input : Option (List ℕ) → Option (List ℕ) → Option (List ℕ) → Option World → ℕ → Streams
with_input input answers pcm files written =
    record { input = input; answers = answers; pcm = pcm; files = files; written = written }

-- what a request does to the files does not depend on the other streams, and a fault of frames only on those of frames
-- and
-- files
pub request_alike : (own : SessionFiles) (live : LiveState) (r : Request) (a : Answer) (b c : Streams)
    (i j o n p q : Option (List ℕ)) → FilesAfterRequest own live r a b c
    → FilesAfterRequest own live r a (with_input i o p b.files b.written) (with_input j n q c.files c.written)
request_alike own live (asks.Save paths) a b c i j o n p q h = h
request_alike own live (asks.Record path) a b c i j o n p q h = h
request_alike own live other a b c i j o n p q h = h

pub stops_alike : (live : LiveState) (r : Request) (b c : Streams) (i j o n : Option (List ℕ)) (why : LiveFault)
    → StopsIn live r b c why
    → StopsIn live r (with_input i o b.pcm b.files b.written) (with_input j n c.pcm c.files c.written) why
stops_alike live (asks.Frames m) b c i j o n why h = h
stops_alike live other b c i j o n why h = absurd h

-- an allocation failed
pub files_after_memory : (own : SessionFiles) (live : LiveState) (r : Request) (b c : Streams) → SavesNothing b c
    → FilesAfterRequest own live r answer.OutOfMemory b c
files_after_memory own live (asks.Save paths) b c h = h.0
files_after_memory own live (asks.Record path) b c h = h.0
files_after_memory own live other b c h = h

-- requests that write no frames and save nothing
pub does_without_output : (own : SessionFiles) (old new : LiveState) (r : Request) (a : Answer) (b : Streams)
    → RequestIs old r a new → frames_of old r a ≡ [] → FilesAfterRequest own old r a b b → Does own old new r a b b
does_without_output own old new r a b h f s = record {
  session = h;
  frames = subst (λ (xs : List ℤ). Appends b.pcm b.pcm (flat_map sample_bytes xs)) (sym f) (Appends-nil b.pcm);
  files = s;
}

pub does_equal : (own : SessionFiles) (old new : LiveState) (r s : Request) (a : Answer) (b : Streams)
    → r ≡ s → Does own old new s a b b → Does own old new r a b b
does_equal own old new r s a b e h = subst (λ (x : Request). Does own old new x a b b) (sym e) h
