-- A line that is answered.
use Rattle.std.proofs.Common.{◌≡◌, ◌≤◌, inl, inr, ℕ, ℤ, false, List, [], ◌++◌, length, take, Option, Some, None, Ok}
use Rattle.std.proofs.Common.{Result, Err, refl, sym, ap, subst, ◌∙◌}
use Rattle.std.specs.Prelude.{IfOk}
use Rattle.std.specs.List.{flat_map}
use Rattle.std.specs.Io.KnownBytes.{Appends}
use Rattle.std.proofs.KnownBytes.{Appends-nil}
use Rattle.file_host.specs.World.{World}
use Rattle.sf_base.specs.declared.memory.Failure.{Failure}
use Rattle.sf_base.specs.declared.memory.Failure.TheVariants as failures
use Rattle.script_tokens.specs.TokenValue.{values_in}
use Rattle.script_tokens.specs.Pool.{Fails}
use Rattle.bank_format.specs.declared.fault.Counts.{Counts}
use Rattle.wave_file.specs.Wave.{sample_bytes}
use Rattle.live_lines.specs.declared.answer.Answer.{Answer}
use Rattle.live_lines.specs.declared.answer.Answer.TheVariants as answer
use Rattle.live_lines.specs.declared.fault.RequestFault.{RequestFault}
use Rattle.live_lines.specs.declared.request.Request.{Request}
use Rattle.live_lines.specs.declared.request.Request.TheVariants as asks
use Rattle.live_lines.specs.Requests.{request_of}
use Rattle.live_lines.specs.Answers.{answer_text}
use Rattle.live_sessions.specs.declared.live.LiveState.{LiveState}
use Rattle.live_sessions.specs.declared.requests.RequestKind.{RequestKind}
use Rattle.live_sessions.specs.declared.requests.Next.{Next}
use Rattle.live_sessions.specs.declared.requests.Next.TheVariants as next
use Rattle.live_sessions.specs.declared.fault.LiveFault.{LiveFault}
use Rattle.live_sessions.specs.declared.fault.LiveFault.TheVariants as fault
use Rattle.live_sessions.specs.declared.saving.SessionFiles.{SessionFiles}
use Rattle.live_sessions.specs.AnswerTexts.{kind_of, listing_now, preamble, next_of, is_last, IsWritten}
use Rattle.live_sessions.specs.AnswerTexts.{IsFaultAnswer, IsFailureAnswer}
use Rattle.live_sessions.specs.Streams.{Streams, SavesNothing}
use Rattle.live_sessions.specs.Steps.{RequestIs, StopsIn, FramesStop, Does, frames_of, preamble_of}
use Rattle.live_sessions.specs.Steps.{events_of, is_end}
use Rattle.live_sessions.specs.Turns.{RequestResult, LineIs, FilesAfterAnswer, Turn, answered, ends}
use Rattle.live_sessions.specs.Runs.{Answers, IsLineResult, StopsLine}
use Rattle.live_sessions.proofs.RequestLaws.{with_input, request_alike, stops_alike, files_after_memory}

-- the outputs of a session
abbrev pub around : Option (List ℕ) → Option (List ℕ) → Option World → ℕ → Streams
around answers pcm files written = with_input None answers pcm files written

abbrev pub turn_of : List ℕ → LiveState → Option Answer → LiveState → Turn
turn_of line old a new = record { line = line; old = old; answer = a; new = new }

-- ---- a line without a request

pub none_asked : (own : SessionFiles) (counts : Counts) (line : List ℕ) (s : LiveState) (o p : Option (List ℕ))
    (v : Option World) (y : ℕ)
    → request_of (values_in line) ≡ Ok None
    → Answers own counts line s s (around o p v y) (around o p v y) false
none_asked own counts line s o p v y e = record {
  turn = turn_of line s None s;
  line_is = refl;
  begins = refl;
  leaves = refl;
  passes = record {
    is = (e, refl);
    answers = subst (λ (x : RequestResult). Appends o o (answered x None (preamble_of counts s) ++ [])) (sym e)
        (Appends-nil o);
    pcm =
        subst (λ (x : RequestResult). Appends p p (flat_map sample_bytes (answered x None (frames_of s)))) (sym e)
        (Appends-nil p);
    files =
        subst (λ (x : RequestResult). FilesAfterAnswer own x s None (around o p v y) (around o p v y)) (sym e)
        (refl, refl);
  };
  ends = ap (λ (x : RequestResult). ends x None) e;
}

-- ---- a line with a fault, or whose allocation fails

-- a line with this answer writes this answer alone
pub record Bare (own : SessionFiles) (counts : Counts) (line : List ℕ) (s : LiveState) (x : RequestResult) (a : Answer) : Type 0 where
  pub is : LineIs line x s (Some a) s
  pub reported : answered x (Some a) (preamble_of counts s) ≡ []
  pub frames : answered x (Some a) (frames_of s) ≡ []
  pub files : (b c : Streams) → SavesNothing b c → FilesAfterAnswer own x s (Some a) b c
  pub ends : ends x (Some a) ≡ false

-- a request that runs out of memory writes no listing or frames, changes no voice and ends no session
abbrev pub NothingDone : LiveState → Request → LiveState → Type 0
NothingDone old r new =
    ((counts : Counts) → preamble_of counts old r answer.OutOfMemory ≡ []) × (frames_of old r answer.OutOfMemory ≡ [])
    × (events_of old r answer.OutOfMemory new ≡ []) × (is_end r answer.OutOfMemory ≡ false)

pub nothing_done : (old : LiveState) (r : Request) (new : LiveState) → NothingDone old r new
nothing_done old (asks.Edit e) new = ((λ counts. refl), refl, refl, refl)
nothing_done old (asks.Neutral e) new = ((λ counts. refl), refl, refl, refl)
nothing_done old asks.Undo new = ((λ counts. refl), refl, refl, refl)
nothing_done old asks.Redo new = ((λ counts. refl), refl, refl, refl)
nothing_done old (asks.Note n) new = ((λ counts. refl), refl, refl, refl)
nothing_done old (asks.Press n) new = ((λ counts. refl), refl, refl, refl)
nothing_done old (asks.Release k) new = ((λ counts. refl), refl, refl, refl)
nothing_done old (asks.Pedal m) new = ((λ counts. refl), refl, refl, refl)
nothing_done old asks.Silence new = ((λ counts. refl), refl, refl, refl)
nothing_done old asks.Stop new = ((λ counts. refl), refl, refl, refl)
nothing_done old (asks.Frames n) new = ((λ counts. refl), refl, refl, refl)
nothing_done old (asks.Record path) new = ((λ counts. refl), refl, refl, refl)
nothing_done old (asks.Save paths) new = ((λ counts. refl), refl, refl, refl)
nothing_done old asks.Voices new = ((λ counts. refl), refl, refl, refl)
nothing_done old asks.Meter new = ((λ counts. refl), refl, refl, refl)
nothing_done old asks.Show new = ((λ counts. refl), refl, refl, refl)
nothing_done old asks.Help new = ((λ counts. refl), refl, refl, refl)
nothing_done old asks.Quit new = ((λ counts. refl), refl, refl, refl)

memory_bare : (own : SessionFiles) (counts : Counts) (line : List ℕ) (s : LiveState) (x : RequestResult)
    → Bare own counts line s x answer.OutOfMemory
memory_bare own counts line s (Ok None) =
    record { is = inr (refl, refl); reported = refl; frames = refl; files = λ b c h. h; ends = refl }
memory_bare own counts line s (Ok (Some r)) =
    let none = nothing_done s r s in
    record {
      is = inr (refl, refl);
      reported = none.0 counts;
      frames = none.1;
      files = λ b c h. files_after_memory own s r b c h;
      ends = none.3;
    }
memory_bare own counts line s (Err f) =
    record { is = inr (refl, refl); reported = refl; frames = refl; files = λ b c h. h; ends = refl }

fault_bare : (own : SessionFiles) (counts : Counts) (line : List ℕ) (s : LiveState) (x : RequestResult) (f : RequestFault)
    (a : Answer) → x ≡ Err f → IsFaultAnswer line f a → Bare own counts line s x a
fault_bare own counts line s x f a e h =
    let at : Bare own counts line s (Err f) a =
    record { is = inl (h, refl); reported = refl; frames = refl; files = λ b c h. h; ends = refl } in
    subst (λ (y : RequestResult). Bare own counts line s y a) (sym e) at

failure_bare : (own : SessionFiles) (counts : Counts) (line : List ℕ) (s : LiveState) (x : RequestResult)
    (why : Failure RequestFault) (a : Answer) → Fails why x → IsFailureAnswer line why a → Bare own counts line s x a
failure_bare own counts line s x (failures.Fault f) a h e = fault_bare own counts line s x f a h e
failure_bare own counts line s x failures.OutOfMemory a h e =
    subst (λ (b : Answer). Bare own counts line s x b) (sym e) (memory_bare own counts line s x)

failure_written : (own : SessionFiles) (counts : Counts) (line : List ℕ) (s : LiveState) (o n p : Option (List ℕ))
    (v : Option World) (y : ℕ) (why : Failure RequestFault) (a : Answer)
    → Fails why (request_of (values_in line)) → IsFailureAnswer line why a → Appends o n (answer_text a)
    → Answers own counts line s s (around o p v y) (around n p v y) false
failure_written own counts line s o n p v y why a h e is_written =
    let b : Bare own counts line s (request_of (values_in line)) a =
    failure_bare own counts line s (request_of (values_in line)) why a h e in
    record {
      turn = turn_of line s (Some a) s;
      line_is = refl;
      begins = refl;
      leaves = refl;
      passes = record {
        is = b.is;
        answers = subst (λ (xs : List ℕ). Appends o n (xs ++ answer_text a)) (sym b.reported) is_written;
        pcm = subst (λ (xs : List ℤ). Appends p p (flat_map sample_bytes xs)) (sym b.frames) (Appends-nil p);
        files = b.files (around o p v y) (around n p v y) (refl, refl);
      };
      ends = b.ends;
    }

failure_not_written : (own : SessionFiles) (counts : Counts) (line : List ℕ) (s : LiveState) (o n p : Option (List ℕ))
    (v : Option World) (y : ℕ) (why : Failure RequestFault) (a : Answer) (f : LiveFault)
    → Fails why (request_of (values_in line)) → IsFailureAnswer line why a
    → IsWritten {U = Next} o n (answer_text a) (Err f)
    → StopsLine own counts line s (around o p v y) (around n p v y) f
failure_not_written own counts line s o n p v y why a (fault.Answers k) h e is_written =
    let b : Bare own counts line s (request_of (values_in line)) a =
    failure_bare own counts line s (request_of (values_in line)) why a h e in
    record {
      turn = turn_of line s (Some a) s;
      line_is = refl;
      begins = refl;
      stops = record {
        is = b.is;
        within = subst (λ (xs : List ℕ). k ≤ length (xs ++ answer_text a)) (sym b.reported) is_written.0;
        answers = subst (λ (xs : List ℕ). Appends o n (take k (xs ++ answer_text a))) (sym b.reported) is_written.1;
        pcm = subst (λ (xs : List ℤ). Appends p p (flat_map sample_bytes xs)) (sym b.frames) (Appends-nil p);
        files = b.files (around o p v y) (around n p v y) (refl, refl);
      };
    }
failure_not_written own counts line s o n p v y why a (fault.File g) h e is_written = absurd is_written
failure_not_written own counts line s o n p v y why a fault.Memory h e is_written = absurd is_written
failure_not_written own counts line s o n p v y why a fault.Input h e is_written = absurd is_written
failure_not_written own counts line s o n p v y why a (fault.Pcm k) h e is_written = absurd is_written

pub failure_answered : (own : SessionFiles) (counts : Counts) (line : List ℕ) (s : LiveState) (o n p : Option (List ℕ))
    (v : Option World) (y : ℕ) (why : Failure RequestFault) (a : Answer) (r : Result Next LiveFault)
    → Fails why (request_of (values_in line)) → IsFailureAnswer line why a → IsWritten o n (answer_text a) r
    → IfOk r (λ (x : Next). x ≡ next.Line)
    → IsLineResult own counts line s s (around o p v y) (around n p v y) r
failure_answered own counts line s o n p v y why a (Ok x) h e is_written goes =
    subst (λ (u : Next). Answers own counts line s s (around o p v y) (around n p v y) (is_last u)) (sym goes)
    (failure_written own counts line s o n p v y why a h e is_written)
failure_answered own counts line s o n p v y why a (Err f) h e is_written goes =
    failure_not_written own counts line s o n p v y why a f h e is_written

-- ---- a request

-- the listing before an answer is the same for the session before and after the request
same_reported : (counts : Counts) (old new : LiveState) (r : Request) (a : Answer) → RequestIs old r a new
    → preamble counts new (kind_of r) ≡ preamble_of counts old r a
same_reported counts old new (asks.Edit e) a h = refl
same_reported counts old new (asks.Neutral e) a h = refl
same_reported counts old new asks.Undo a h = refl
same_reported counts old new asks.Redo a h = refl
same_reported counts old new (asks.Note n) a h = refl
same_reported counts old new (asks.Press n) a h = refl
same_reported counts old new (asks.Release k) a h = refl
same_reported counts old new (asks.Pedal m) a h = refl
same_reported counts old new asks.Silence a h = refl
same_reported counts old new asks.Stop a h = refl
same_reported counts old new (asks.Frames n) a h = refl
same_reported counts old new (asks.Record path) a h = refl
same_reported counts old new (asks.Save paths) a h = refl
same_reported counts old new asks.Voices a h = refl
same_reported counts old new asks.Meter a h = refl
same_reported counts old new asks.Show answer.Done h = ap (listing_now counts) h
same_reported counts old new asks.Show (answer.Counted n) h = absurd h
same_reported counts old new asks.Show (answer.Moved comment) h = absurd h
same_reported counts old new asks.Show (answer.Measured n m) h = absurd h
same_reported counts old new asks.Show (answer.Refused why) h = absurd h
same_reported counts old new asks.Show answer.NotNeutral h = absurd h
same_reported counts old new asks.Show (answer.Fault f comment) h = absurd h
same_reported counts old new asks.Show answer.OutOfMemory h = absurd h
same_reported counts old new asks.Show (answer.WriteFault path n) h = absurd h
same_reported counts old new asks.Show (answer.Rejected path f) h = absurd h
same_reported counts old new asks.Help answer.Done h = refl
same_reported counts old new asks.Help (answer.Counted n) h = absurd h
same_reported counts old new asks.Help (answer.Moved comment) h = absurd h
same_reported counts old new asks.Help (answer.Measured n m) h = absurd h
same_reported counts old new asks.Help (answer.Refused why) h = absurd h
same_reported counts old new asks.Help answer.NotNeutral h = absurd h
same_reported counts old new asks.Help (answer.Fault f comment) h = absurd h
same_reported counts old new asks.Help answer.OutOfMemory h = absurd h
same_reported counts old new asks.Help (answer.WriteFault path n) h = absurd h
same_reported counts old new asks.Help (answer.Rejected path f) h = absurd h
same_reported counts old new asks.Quit a h = refl

same_end : (old new : LiveState) (r : Request) (a : Answer) → RequestIs old r a new
    → is_end r a ≡ is_last (next_of (kind_of r))
same_end old new (asks.Edit e) a h = refl
same_end old new (asks.Neutral e) a h = refl
same_end old new asks.Undo a h = refl
same_end old new asks.Redo a h = refl
same_end old new (asks.Note n) a h = refl
same_end old new (asks.Press n) a h = refl
same_end old new (asks.Release k) a h = refl
same_end old new (asks.Pedal m) a h = refl
same_end old new asks.Silence a h = refl
same_end old new asks.Stop a h = refl
same_end old new (asks.Frames n) a h = refl
same_end old new (asks.Record path) a h = refl
same_end old new (asks.Save paths) a h = refl
same_end old new asks.Voices a h = refl
same_end old new asks.Meter a h = refl
same_end old new asks.Show a h = refl
same_end old new asks.Help a h = refl
same_end old new asks.Quit answer.Done h = refl
same_end old new asks.Quit (answer.Counted n) h = absurd h
same_end old new asks.Quit (answer.Moved comment) h = absurd h
same_end old new asks.Quit (answer.Measured n m) h = absurd h
same_end old new asks.Quit (answer.Refused why) h = absurd h
same_end old new asks.Quit answer.NotNeutral h = absurd h
same_end old new asks.Quit (answer.Fault f comment) h = absurd h
same_end old new asks.Quit answer.OutOfMemory h = absurd h
same_end old new asks.Quit (answer.WriteFault path n) h = absurd h
same_end old new asks.Quit (answer.Rejected path f) h = absurd h

-- the turn of a line with this request
request_written : (own : SessionFiles) (counts : Counts) (line : List ℕ) (old new : LiveState) (r : Request)
    (a : Answer) (k : RequestKind) (next : Next) (o n p q : Option (List ℕ)) (v w : Option World) (y z : ℕ)
    → request_of (values_in line) ≡ Ok (Some r) → k ≡ kind_of r → next ≡ next_of k
    → Does own old new r a (around None p v y) (around None q w z)
    → Appends o n (preamble counts new k ++ answer_text a)
    → Answers own counts line old new (around o p v y) (around n q w z) (is_last next)
request_written own counts line old new r a k next o n p q v w y z e kind_is next_is d is_written =
    let reported : preamble counts new k ≡ preamble_of counts old r a =
    ap (preamble counts new) kind_is ∙ same_reported counts old new r a d.session in
    let last : is_end r a ≡ is_last next =
    same_end old new r a d.session ∙ sym (ap is_last (next_is ∙ ap next_of kind_is)) in
    record {
      turn = turn_of line old (Some a) new;
      line_is = refl;
      begins = refl;
      leaves = refl;
      passes = record {
        is = subst (λ (x : RequestResult). LineIs line x old (Some a) new) (sym e) (inl d.session);
        answers = subst
            (λ (x : RequestResult). Appends o n (answered x (Some a) (preamble_of counts old) ++ answer_text a)) (sym e)
            (subst (λ (xs : List ℕ). Appends o n (xs ++ answer_text a)) reported is_written);
        pcm =
            subst (λ (x : RequestResult). Appends p q (flat_map sample_bytes (answered x (Some a) (frames_of old))))
            (sym e)
            d.frames;
        files =
            subst (λ (x : RequestResult). FilesAfterAnswer own x old (Some a) (around o p v y) (around n q w z)) (sym e)
            (request_alike own old r a (around None p v y) (around None q w z) None None o n p q d.files);
      };
      ends = ap (λ (x : RequestResult). ends x (Some a)) e ∙ last;
    }

request_not_written : (own : SessionFiles) (counts : Counts) (line : List ℕ) (old new : LiveState) (r : Request)
    (a : Answer) (k : RequestKind) (o n p q : Option (List ℕ)) (v w : Option World) (y z : ℕ) (f : LiveFault)
    → request_of (values_in line) ≡ Ok (Some r) → k ≡ kind_of r
    → Does own old new r a (around None p v y) (around None q w z)
    → IsWritten {U = Next} o n (preamble counts new k ++ answer_text a) (Err f)
    → StopsLine own counts line old (around o p v y) (around n q w z) f
request_not_written own counts line old new r a k o n p q v w y z (fault.Answers m) e kind_is d is_written =
    let reported : preamble counts new k ≡ preamble_of counts old r a =
    ap (preamble counts new) kind_is ∙ same_reported counts old new r a d.session in
    let S : List ℕ → Type 0 = λ xs. (m ≤ length (xs ++ answer_text a)) × Appends o n (take m (xs ++ answer_text a)) in
    let T : RequestResult → Type 0 = λ x. S (answered x (Some a) (preamble_of counts old)) in
    let both : T (request_of (values_in line)) = subst T (sym e) (subst S reported is_written) in
    record {
      turn = turn_of line old (Some a) new;
      line_is = refl;
      begins = refl;
      stops = record {
        is = subst (λ (x : RequestResult). LineIs line x old (Some a) new) (sym e) (inl d.session);
        within = both.0;
        answers = both.1;
        pcm =
            subst (λ (x : RequestResult). Appends p q (flat_map sample_bytes (answered x (Some a) (frames_of old))))
            (sym e)
            d.frames;
        files =
            subst (λ (x : RequestResult). FilesAfterAnswer own x old (Some a) (around o p v y) (around n q w z)) (sym e)
            (request_alike own old r a (around None p v y) (around None q w z) None None o n p q d.files);
      };
    }
request_not_written own counts line old new r a k o n p q v w y z (fault.File g) e kind_is d is_written =
    absurd is_written
request_not_written own counts line old new r a k o n p q v w y z fault.Memory e kind_is d is_written =
    absurd is_written
request_not_written own counts line old new r a k o n p q v w y z fault.Input e kind_is d is_written = absurd is_written
request_not_written own counts line old new r a k o n p q v w y z (fault.Pcm m) e kind_is d is_written =
    absurd is_written

pub request_answered : (own : SessionFiles) (counts : Counts) (line : List ℕ) (old new : LiveState) (r : Request)
    (a : Answer) (k : RequestKind) (o n p q : Option (List ℕ)) (v w : Option World) (y z : ℕ)
    (result : Result Next LiveFault)
    → request_of (values_in line) ≡ Ok (Some r) → k ≡ kind_of r
    → Does own old new r a (around None p v y) (around None q w z)
    → IsWritten o n (preamble counts new k ++ answer_text a) result → IfOk result (λ (x : Next). x ≡ next_of k)
    → IsLineResult own counts line old new (around o p v y) (around n q w z) result
request_answered own counts line old new r a k o n p q v w y z (Ok x) e kind_is d is_written next_is =
    request_written own counts line old new r a k x o n p q v w y z e kind_is next_is d is_written
request_answered own counts line old new r a k o n p q v w y z (Err f) e kind_is d is_written next_is =
    request_not_written own counts line old new r a k o n p q v w y z f e kind_is d is_written

-- a request stops only by a fault of the writer of frames
abbrev IsOfFrames : LiveFault → Type 0
IsOfFrames (fault.Pcm n) = Unit {0}
IsOfFrames other = ⊥

of_frames : (old : LiveState) (n : ℕ) (p q : Option (List ℕ)) (f : LiveFault) → FramesStop old n p q f → IsOfFrames f
of_frames old n p q (fault.Pcm k) h = tt
of_frames old n p q (fault.File g) h = h
of_frames old n p q fault.Memory h = h
of_frames old n p q fault.Input h = h
of_frames old n p q (fault.Answers k) h = h

only_frames : (old : LiveState) (r : Request) (b c : Streams) (f : LiveFault) → StopsIn old r b c f → IsOfFrames f
only_frames old (asks.Edit e) b c f h = absurd h
only_frames old (asks.Neutral e) b c f h = absurd h
only_frames old asks.Undo b c f h = absurd h
only_frames old asks.Redo b c f h = absurd h
only_frames old (asks.Note n) b c f h = absurd h
only_frames old (asks.Press n) b c f h = absurd h
only_frames old (asks.Release k) b c f h = absurd h
only_frames old (asks.Pedal m) b c f h = absurd h
only_frames old asks.Silence b c f h = absurd h
only_frames old asks.Stop b c f h = absurd h
only_frames old (asks.Frames n) b c f h = of_frames old n b.pcm c.pcm f h.0
only_frames old (asks.Record path) b c f h = absurd h
only_frames old (asks.Save paths) b c f h = absurd h
only_frames old asks.Voices b c f h = absurd h
only_frames old asks.Meter b c f h = absurd h
only_frames old asks.Show b c f h = absurd h
only_frames old asks.Help b c f h = absurd h
only_frames old asks.Quit b c f h = absurd h

pub request_stopped : (own : SessionFiles) (counts : Counts) (line : List ℕ) (old : LiveState) (r : Request)
    (o p q : Option (List ℕ)) (v w : Option World) (y z : ℕ) (f : LiveFault)
    → request_of (values_in line) ≡ Ok (Some r) → StopsIn old r (around None p v y) (around None q w z) f
    → StopsLine own counts line old (around o p v y) (around o q w z) f
request_stopped own counts line old r o p q v w y z (fault.Pcm n) e h = record {
  turn = turn_of line old None old;
  line_is = refl;
  begins = refl;
  stops = record {
    request = r;
    is = e;
    stops = stops_alike old r (around None p v y) (around None q w z) None None o o (fault.Pcm n) h;
    answers = Appends-nil o;
  };
}
request_stopped own counts line old r o p q v w y z (fault.File g) e h =
    absurd (only_frames old r (around None p v y) (around None q w z) (fault.File g) h)
request_stopped own counts line old r o p q v w y z fault.Memory e h =
    absurd (only_frames old r (around None p v y) (around None q w z) fault.Memory h)
request_stopped own counts line old r o p q v w y z fault.Input e h =
    absurd (only_frames old r (around None p v y) (around None q w z) fault.Input h)
request_stopped own counts line old r o p q v w y z (fault.Answers n) e h =
    absurd (only_frames old r (around None p v y) (around None q w z) (fault.Answers n) h)
