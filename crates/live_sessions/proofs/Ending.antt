-- Lines that are answered in order, and the end of a session.
use Rattle.std.proofs.Common.{◌≡◌, ◌≢◌, inl, inr, ℕ, ◌+◌, Bool, true, false, ◌||◌, List, [], ◌∷◌, ◌++◌, map, length}
use Rattle.std.proofs.Common.{Option, Some, None, IsSomeAnd, Result, Ok, Err, refl, sym, ap, subst, ◌∙◌, append-nil}
use Rattle.std.proofs.Common.{append_assoc, length-append}
use Rattle.std.specs.declared.io.ErrorKind.{ErrorKind}
use Rattle.std.specs.declared.io.ErrorKind.TheVariants.{OutOfMemory}
use Rattle.std.specs.List.{flat_map, list_any}
use Rattle.std.specs.Io.KnownBytes.{Appends, IsAtEnd}
use Rattle.std.proofs.KnownBytes.{Appends-nil, Appends-trans}
use Rattle.std.proofs.lemmas.Grind.{flat_map-append}
use Rattle.std.proofs.lemmas.List.{map-append}
use Rattle.file_host.specs.World.{World}
use Rattle.script_tokens.specs.Lines.{lines_of}
use Rattle.bank_format.specs.declared.fault.Counts.{Counts}
use Rattle.live_lines.specs.declared.answer.Answer.{Answer}
use Rattle.live_sessions.specs.declared.live.LiveState.{LiveState}
use Rattle.live_sessions.specs.declared.requests.Next.{Next}
use Rattle.live_sessions.specs.declared.requests.Next.TheVariants as next
use Rattle.live_sessions.specs.declared.fault.LiveFault.{LiveFault}
use Rattle.live_sessions.specs.declared.fault.LiveFault.TheVariants as fault
use Rattle.live_sessions.specs.declared.saving.SessionFiles.{SessionFiles}
use Rattle.live_sessions.specs.Streams.{Streams, SavesNothing}
use Rattle.live_sessions.specs.Turns.{RequestResult, LineIs, Turn, request_in, text_in, bytes_in, ends_in}
use Rattle.live_sessions.specs.Turns.{FilesAfterAnswer, FilesAfterLine, AreTurns}
use Rattle.live_sessions.specs.Turns.{Reads, Passes, FilesAfter, Passed}
use Rattle.live_sessions.specs.Runs.{OnlyReads, EndsWell, ReadsPart, Unread, EndsBy, most_lines, Plays, IsLineResult}
use Rattle.live_sessions.specs.Runs.{Continues}
use Rattle.live_sessions.specs.Runs.{IsNextLineResult, IsReadFault}
use Rattle.live_sessions.proofs.RequestLaws.{with_input, request_alike, stops_alike}
use Rattle.live_sessions.proofs.AnsweredLines.{around}

-- ---- a line that was read

-- what a line does to the files does not depend on the other streams
answer_alike : (own : SessionFiles) (x : RequestResult) (live : LiveState) (a : Option Answer) (b c : Streams)
    (i j o n p q : Option (List ℕ)) → FilesAfterAnswer own x live a b c
    → FilesAfterAnswer own x live a (with_input i o p b.files b.written) (with_input j n q c.files c.written)
answer_alike own (Ok (Some r)) live (Some a) b c i j o n p q h = request_alike own live r a b c i j o n p q h
answer_alike own (Ok (Some r)) live None b c i j o n p q h = h
answer_alike own (Ok None) live a b c i j o n p q h = h
answer_alike own (Err f) live a b c i j o n p q h = h

passes_read : (own : SessionFiles) (counts : Counts) (t : Turn) (i j o n p q : Option (List ℕ)) (v w : Option World)
    (y z : ℕ)
    → Passes own counts t (around o p v y) (around n q w z)
    → Passes own counts t (with_input i o p v y) (with_input j n q w z)
passes_read own counts t i j o n p q v w y z h = record {
  is = h.is;
  answers = h.answers;
  pcm = h.pcm;
  files = answer_alike own (request_in t) t.old t.answer (around o p v y) (around n q w z) i j o n p q h.files;
}

pub line_result : (own : SessionFiles) (counts : Counts) (line : List ℕ) (old new : LiveState)
    (i j o n p q : Option (List ℕ)) (v w : Option World) (y z : ℕ) (why : Option ErrorKind) (r : Result Next LiveFault)
    → Reads i j (line ∷ []) → IsLineResult own counts line old new (around o p v y) (around n q w z) r
    → IsNextLineResult own counts old new (with_input i o p v y) (with_input j n q w z) why r
line_result own counts line old new i j o n p q v w y z why (Ok next.Line) read h = record {
  line = line;
  input = read;
  answers =
      record {
        turn =
            h.turn;
        line_is =
            h.line_is;
        begins =
            h.begins;
        leaves =
            h.leaves;
        passes = passes_read own counts h.turn i j o n p q v w y z h.passes;
        ends = h.ends;
      };
}
line_result own counts line old new i j o n p q v w y z why (Ok next.End) read h = inr (record {
  turn = h.turn;
  begins = h.begins;
  input = subst (λ (l : List ℕ). Reads i j (l ∷ [])) (sym h.line_is) read;
  passes = passes_read own counts h.turn i j o n p q v w y z h.passes;
  ends = h.ends;
})
line_result own counts line old new i j o n p q v w y z why (Err (fault.Answers k)) read h = record {
  turn = h.turn;
  begins = h.begins;
  input = subst (λ (l : List ℕ). Reads i j (l ∷ [])) (sym h.line_is) read;
  stops =
      record {
        is =
            h.stops.is;
        within =
            h.stops.within;
        answers = h.stops.answers;
        pcm = h.stops.pcm;
        files =
            answer_alike own (request_in h.turn) h.turn.old h.turn.answer (around o p v y) (around n q w z) i j o n p q
            h.stops.files;
      };
}
line_result own counts line old new i j o n p q v w y z why (Err (fault.Pcm k)) read h = record {
  turn = h.turn;
  begins = h.begins;
  input = subst (λ (l : List ℕ). Reads i j (l ∷ [])) (sym h.line_is) read;
  stops = record {
    request = h.stops.request;
    is = h.stops.is;
    stops =
        stops_alike h.turn.old h.stops.request (around o p v y) (around n q w z) i j o n (fault.Pcm k) h.stops.stops;
    answers = h.stops.answers;
  };
}
line_result own counts line old new i j o n p q v w y z why (Err (fault.File f)) read h = absurd h.stops
line_result own counts line old new i j o n p q v w y z why (Err fault.Memory) read h = absurd h.stops
line_result own counts line old new i j o n p q v w y z why (Err fault.Input) read h = absurd h.stops

only_reads : (i j o p : Option (List ℕ)) (v : Option World) (y : ℕ)
    → OnlyReads (with_input i o p v y) (with_input j o p v y)
only_reads i j o p v y = record { answers = refl; pcm = refl; files = (refl, refl) }

no_line : (i j o p : Option (List ℕ)) (v : Option World) (y : ℕ) (why : Option ErrorKind) (P : ErrorKind → Type 0)
    (kind : ErrorKind) → why ≡ Some kind → P kind → ReadsPart i j
    → Unread (with_input i o p v y) (with_input j o p v y) why P
no_line i j o p v y why P kind e h part = record {
  failed = subst (λ (w : Option ErrorKind). IsSomeAnd w P) (sym e) h;
  part = part;
  only = only_reads i j o p v y;
}

pub unread : (own : SessionFiles) (counts : Counts) (old new : LiveState) (i j o p : Option (List ℕ)) (v : Option World)
    (y : ℕ) (why : Option ErrorKind) (kind : ErrorKind) (f : LiveFault) → why ≡ Some kind → IsReadFault kind f
    → ReadsPart i j
    → IsNextLineResult own counts old new (with_input i o p v y) (with_input j o p v y) why (Err f)
unread own counts old new i j o p v y why kind fault.Memory e h part =
    no_line i j o p v y why (λ k. k ≡ OutOfMemory) kind e h part
unread own counts old new i j o p v y why kind fault.Input e h part =
    no_line i j o p v y why (λ k. k ≢ OutOfMemory) kind e h part
unread own counts old new i j o p v y why kind (fault.File f) e h part = absurd h
unread own counts old new i j o p v y why kind (fault.Answers k) e h part = absurd h
unread own counts old new i j o p v y why kind (fault.Pcm k) e h part = absurd h

pub at_end : (own : SessionFiles) (counts : Counts) (old : LiveState) (i j o p : Option (List ℕ)) (v : Option World)
    (y : ℕ) → IsAtEnd i
    → EndsWell own counts old (with_input i o p v y) (with_input j o p v y)
at_end own counts old i j o p v y h = inl (h, only_reads i j o p v y)

-- ---- lines in order

-- `n` lines were answered
pub record Reached (own : SessionFiles) (counts : Counts) (n : ℕ) (first last : LiveState)
    (old new : Streams) : Type 0 where
  pub turns : List Turn
  pub count : length turns ≡ n
  pub passed : Passed own counts first turns last old new

reads_nothing : (i : Option (List ℕ)) → Reads i i []
reads_nothing None = tt
reads_nothing (Some bytes) = refl

reads_then : (a b c : Option (List ℕ)) (xs ys : List (List ℕ)) → Reads a b xs → Reads b c ys → Reads a c (xs ++ ys)
reads_then None b c xs ys p q = tt
reads_then (Some x) None c xs ys p q = absurd p
reads_then (Some x) (Some y) None xs ys p q = absurd q
reads_then (Some x) (Some y) (Some z) xs ys p q =
    p ∙ ap (λ (ls : List (List ℕ)). xs ++ ls) q ∙ sym (append_assoc xs ys (lines_of z))

turns_then : (first middle : LiveState) (ts : List Turn) (t : Turn) → AreTurns first ts middle → t.old ≡ middle
    → LineIs t.line (request_in t) t.old t.answer t.new → AreTurns first (ts ++ t ∷ []) t.new
turns_then first middle [] t h e is = (e ∙ h, is, refl)
turns_then first middle (s ∷ ts) t h e is = (h.0, h.1, turns_then s.new middle ts t h.2 e is)

going_then : (ts : List Turn) (t : Turn) → list_any ends_in ts ≡ false → ends_in t ≡ false
    → list_any ends_in (ts ++ t ∷ []) ≡ false
going_then [] t h e = ap (λ (b : Bool). b || false) e
going_then (s ∷ ts) t h e =
    let P : Bool → Type 0 = λ b. (b || list_any ends_in ts) ≡ false → (b || list_any ends_in (ts ++ t ∷ [])) ≡ false in
    let at : (b : Bool) → P b = elim [ true ↦ λ k. k | false ↦ λ k. going_then ts t k e ] in
    at (ends_in s) h

-- a line after no line
line_from : (own : SessionFiles) (t : Turn) (a b c : Streams) → SavesNothing a b → FilesAfterLine own t b c
    → FilesAfterLine own t a c
line_from own t a b c e h =
    subst (λ (n : ℕ). FilesAfterLine own t (with_input a.input a.answers a.pcm a.files n) c) e.1
    (subst (λ (w : Option World). FilesAfterLine own t (with_input a.input a.answers a.pcm w b.written) c) e.0
    (answer_alike own (request_in t) t.old t.answer b c a.input c.input a.answers c.answers a.pcm c.pcm h))

files_then : (own : SessionFiles) (ts : List Turn) (t : Turn) (a b c : Streams) → FilesAfter own ts a b
    → FilesAfterLine own t b c → FilesAfter own (ts ++ t ∷ []) a c
files_then own [] t a b c e h = (c, line_from own t a b c e h, (refl, refl))
files_then own (s ∷ ts) t a b c f h = (f.0, f.1, files_then own ts t f.0 b c f.2 h)

one_of : {X : Type 0} (f : Turn → List X) (t : Turn) → flat_map f (t ∷ []) ≡ f t
one_of f t = append-nil (f t)

more_of : {X : Type 0} (f : Turn → List X) (ts : List Turn) (t : Turn)
    → flat_map f (ts ++ t ∷ []) ≡ flat_map f ts ++ f t
more_of f ts t = flat_map-append f ts (t ∷ []) ∙ ap (λ (xs : List _). flat_map f ts ++ xs) (one_of f t)

pub reached_first : (own : SessionFiles) (counts : Counts) (first : LiveState) (a : Streams)
    → Reached own counts 0 first first a a
reached_first own counts first a = record {
  turns = [];
  count = refl;
  passed = record {
    turns = refl;
    going = refl;
    input = reads_nothing a.input;
    answers = Appends-nil a.answers;
    pcm = Appends-nil a.pcm;
    files = (refl, refl);
  };
}

pub reached_next : (own : SessionFiles) (counts : Counts) (n : ℕ) (first last new : LiveState) (a b c : Streams)
    → Reached own counts n first last a b → Continues own counts last new b c
    → Reached own counts (n + 1) first new a c
reached_next own counts n first last new a b c r g =
    let t : Turn = g.answers.turn in
    let ts : List Turn = r.turns in
    record {
      turns = ts ++ t ∷ [];
      count = length-append ts (t ∷ []) ∙ ap (λ (k : ℕ). k + 1) r.count;
      passed = record {
        turns =
            subst (λ (s : LiveState). AreTurns first (ts ++ t ∷ []) s) g.answers.leaves
            (turns_then first last ts t r.passed.turns g.answers.begins g.answers.passes.is);
        going = going_then ts t r.passed.going g.answers.ends;
        input =
            subst (λ (ls : List (List ℕ)). Reads a.input c.input ls)
            (sym (map-append (λ (u : Turn). u.line) ts (t ∷ [])))
            (reads_then a.input b.input c.input (map (λ (u : Turn). u.line) ts) (t.line ∷ []) r.passed.input
            (subst (λ (l : List ℕ). Reads b.input c.input (l ∷ [])) (sym g.answers.line_is) g.input));
        answers = subst (λ (xs : List ℕ). Appends a.answers c.answers xs) (sym (more_of (text_in counts) ts t))
            (Appends-trans a.answers b.answers c.answers (flat_map (text_in counts) ts) (text_in counts t)
            r.passed.answers g.answers.passes.answers);
        pcm = subst (λ (xs : List ℕ). Appends a.pcm c.pcm xs) (sym (more_of bytes_in ts t))
            (Appends-trans a.pcm b.pcm c.pcm (flat_map bytes_in ts) (bytes_in t) r.passed.pcm g.answers.passes.pcm);
        files = files_then own ts t a b c r.passed.files g.answers.passes.files;
      };
    }

pub plays_to : (own : SessionFiles) (counts : Counts) (n : ℕ) (first last : LiveState) (a b c : Streams)
    (why : Option ErrorKind) (r : Result (Unit {0}) LiveFault)
    → Reached own counts n first last a b → EndsBy own counts last b c why r → Plays own counts first a c why r
plays_to own counts n first last a b c why r h e =
    record { turns = h.turns; last = last; between = b; passed = h.passed; end = inl e }

pub plays_full : (own : SessionFiles) (counts : Counts) (n : ℕ) (first last : LiveState) (a b : Streams)
    (why : Option ErrorKind)
    → Reached own counts n first last a b → n ≡ most_lines → Plays own counts first a b why (Err fault.Input)
plays_full own counts n first last a b why h e =
    record { turns = h.turns; last = last; between = b; passed = h.passed; end = inr (h.count ∙ e, refl) }

-- ---- the whole run

pub continues : (own : SessionFiles) (counts : Counts) (x : Next) (old new : LiveState) (a b : Streams)
    (why : Option ErrorKind) → x ≡ next.Line
    → IsNextLineResult own counts old new a b why (Ok x) → Continues own counts old new a b
continues own counts x old new a b why e h =
    subst (λ (y : Next). IsNextLineResult own counts old new a b why (Ok y)) e h

pub ends_well : (own : SessionFiles) (counts : Counts) (x : Next) (old new : LiveState) (a b : Streams)
    (why : Option ErrorKind) → x ≡ next.End
    → IsNextLineResult own counts old new a b why (Ok x) → EndsWell own counts old a b
ends_well own counts x old new a b why e h =
    subst (λ (y : Next). IsNextLineResult own counts old new a b why (Ok y)) e h
