-- The comments of moves of samples that follow one another.
use Rattle.std.proofs.Common.{◌≡◌, ◌<◌, ◌+◌, ◌++◌, ℕ, List, [], ◌∷◌, length, map, take, drop, get_or, refl, sym, ap, subst, ◌∙◌}
use Rattle.std.proofs.Common.{append_assoc}
use Rattle.std.specs.Prelude.{Result, Ok, Err, IfErr, IsErrAnd}
use Rattle.std.proofs.lemmas.List.{map_more, map_push}
use Rattle.bank_parts.specs.declared.parts.Parts.{Parts}
use Rattle.bank_changes.specs.declared.sample_moves.SampleMove.{SampleMove}
use Rattle.bank_changes.specs.Samples.{sample_moved}
use Rattle.bank_changes.specs.SampleMoves.{AreMoves, IsMove, samples_moved, name_at, moved_names}
use Rattle.bank_changes.proofs.SampleLaws.{length-sample_moved}
use Rattle.base_numbered_lists.proofs.Lists.{slice_get-found}
use Rattle.edit_forms.specs.declared.edit.Edit.{Edit}
use Rattle.edit_refusals.specs.Edits.{raw}
use Rattle.edit_refusals.specs.declared.refusal.Refusal.{Refusal}
use Rattle.edit_refusals.specs.declared.refusal.Refusal.TheVariants.{OutOfMemory}
use Rattle.bank_edits.specs.Runs.{AllAccepted, after_all}
use Rattle.script_comments.specs.declared.along.EditComments.{EditComments}
use Rattle.script_comments.specs.Comments.{comment_of}
use Rattle.bank_edits.specs.MoveEdits.{move_edit}
use Rattle.script_comments.specs.Along.{comments_of, Holds, name_comment}
use Rattle.script_comments.proofs.AlongLaws.{Going, next}

-- the comment of a move is the name of the moved sample
comment_is : (b : Parts) (m : SampleMove) → m.from < length b.samples
    → comment_of b (move_edit m) ≡ name_comment (name_at b.samples m.from)
unfolding comment_of
comment_is b m lt = let (s, e) = slice_get-found b.samples m.from lt in rw e refl

pub comments_are : (b : Parts) (ms : List SampleMove) → AreMoves (length b.samples) ms
    → comments_of b (map move_edit ms) ≡ map name_comment (moved_names b ms)
comments_are b [] h = refl
comments_are b (m ∷ ms) h =
    let rest =
    comments_are (sample_moved b m.from m.to) ms
    (subst (λ n. AreMoves n ms) (sym (length-sample_moved b m.from m.to h.0.from h.0.to)) h.1) in
    let first = comment_is b m h.0.from in
    λ i. first i ∷ rest i

-- ---- names

pub one_more_name : (old before now : EditComments) (names : List (List ℕ)) (i : ℕ) (d : List ℕ) → i < length names
    → ((cs : List (List ℕ)) → Holds old cs → Holds before (cs ++ map name_comment (take i names)))
    → ((cs : List (List ℕ)) → Holds before cs → Holds now (cs ++ name_comment (get_or names i d) ∷ []))
    → (cs : List (List ℕ)) → Holds old cs → Holds now (cs ++ map name_comment (take (i + 1) names))
one_more_name old before now names i d lt kept more cs h =
    let last : List ℕ = name_comment (get_or names i d) in
    subst (Holds now)
    (append_assoc cs (map name_comment (take i names)) (last ∷ [])
    ∙ ap (λ (t : List (List ℕ)). cs ++ t) (sym (map_more name_comment names i d lt)))
    (more (cs ++ map name_comment (take i names)) (kept cs h))

-- ---- moves that are gathered

comments-append : (b : Parts) (es fs : List Edit)
    → comments_of b (es ++ fs) ≡ comments_of b es ++ comments_of (after_all b es) fs
comments-append b [] fs = refl
comments-append b (e ∷ es) fs = ap (λ (t : List (List ℕ)). comment_of b e ∷ t) (comments-append (raw b e) es fs)

after-append : (b : Parts) (es fs : List Edit) → after_all b (es ++ fs) ≡ after_all (after_all b es) fs
after-append b [] fs = refl
after-append b (e ∷ es) fs = after-append (raw b e) es fs

rest_accepted : (b : Parts) (es fs : List Edit) → AllAccepted b (es ++ fs) → AllAccepted (after_all b es) fs
rest_accepted b [] fs h = h
rest_accepted b (e ∷ es) fs h = rest_accepted (raw b e) es fs h.1

-- the gathered moves and the edits after them are still to be done
pub record Gathered (first now : Parts) (edits rest : List Edit) (kept : EditComments) (moves : List SampleMove)
    : Type 0 where
  pub going : Going first now edits (map move_edit moves ++ rest) kept
  pub within : AreMoves (length now.samples) moves

pub none_gathered : (first now : Parts) (edits rest : List Edit) (kept : EditComments) (moves : List SampleMove)
    → Going first now edits rest kept → moves ≡ [] → Gathered first now edits rest kept moves
none_gathered first now edits rest kept moves g none =
    subst (Gathered first now edits rest kept) (sym none) (record { going = g; within = tt })

within_more : (n : ℕ) (moves : List SampleMove) (m : SampleMove) → AreMoves n moves → IsMove n m
    → AreMoves n (moves ++ m ∷ [])
within_more n [] m h k = (k, tt)
within_more n (x ∷ moves) m h k = (h.0, within_more n moves m h.1 k)

-- one more move is gathered
pub gathered_more : (first now : Parts) (edits : List Edit) (i : ℕ) (e : Edit) (kept : EditComments)
    (moves more : List SampleMove) (m : SampleMove) → Gathered first now edits (drop i edits) kept moves
    → i < length edits → e ≡ get_or edits i e → (e ≡ move_edit m) × IsMove (length now.samples) m
    → more ≡ moves ++ m ∷ [] → Gathered first now edits (drop (i + 1) edits) kept more
gathered_more first now edits i e kept moves more m g lt read is change =
    let rest = drop (i + 1) edits in
    let here : drop i edits ≡ move_edit m ∷ rest = next edits i e lt read ∙ ap (λ (f : Edit). f ∷ rest) is.0 in
    let all : map move_edit moves ++ drop i edits ≡ map move_edit (moves ++ m ∷ []) ++ rest =
    ap (λ (es : List Edit). map move_edit moves ++ es) here
    ∙ sym (append_assoc (map move_edit moves) (move_edit m ∷ []) rest)
    ∙ ap (λ (es : List Edit). es ++ rest) (sym (map_push move_edit moves m)) in
    subst (Gathered first now edits rest kept) (sym change)
    (record {
      going = subst (λ (es : List Edit). Going first now edits es kept) all g.going;
      within = within_more (length now.samples) moves m g.within is.1;
    })

-- the gathered moves are done
pub gathered_done : (first now later : Parts) (edits rest : List Edit) (old new : EditComments) (moves : List SampleMove)
    → Gathered first now edits rest old moves
    → ((cs : List (List ℕ)) → Holds old cs → Holds new (cs ++ comments_of now (map move_edit moves)))
    → later ≡ after_all now (map move_edit moves) → Going first later edits rest new
gathered_done first now later edits rest old new moves g add change =
    let es : List Edit = map move_edit moves in
    let s = g.going in
    subst (λ (b : Parts). Going first b edits rest new) (sym change)
    (record {
      done = s.done ++ comments_of now es;
      holds = add s.done s.holds;
      comments =
          s.comments ∙ ap (λ (t : List (List ℕ)). s.done ++ t) (comments-append now es rest)
          ∙ sym (append_assoc s.done (comments_of now es) (comments_of (after_all now es) rest));
      bank = s.bank ∙ after-append now es rest;
      accepted = λ a. rest_accepted now es rest (s.accepted a);
    })

pub gathered_as : {first now later : Parts} {edits rest : List Edit} {old new : EditComments}
    {moves more : List SampleMove} → later ≡ now → new ≡ old → more ≡ moves → Gathered first now edits rest old moves
    → Gathered first later edits rest new more
gathered_as {first} {now} {later} {edits} {rest} {old} {new} {moves} {more} bank kept listed g =
    subst (λ (b : Parts). Gathered first b edits rest new more) (sym bank)
    (subst (λ (k : EditComments). Gathered first now edits rest k more) (sym kept)
    (subst (Gathered first now edits rest old) (sym listed) g))

pub no_memory : {X : Type 0} (r : Result X Refusal) (why : Refusal) → IsErrAnd r (λ e. e ≡ why) → why ≡ OutOfMemory
    → IfErr r (λ e. e ≡ OutOfMemory)
no_memory (Ok x) why is h = tt
no_memory (Err e) why is h = is ∙ h
