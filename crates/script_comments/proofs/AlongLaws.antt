-- The comments of edits, of which each changes the bank for the next.
use Rattle.std.proofs.Common.{◌≡◌, ◌<◌, ◌≤◌, ◌+◌, ◌++◌, ℕ, zero, suc, List, [], ◌∷◌, length, map, drop, get_or, None, refl, sym}
use Rattle.std.proofs.Common.{ap, subst, ◌∙◌, arith, append_assoc, drop-cons}
use Rattle.std.specs.List.{flat_map}
use Rattle.std.proofs.Math.Seq.{take-append_seam, drop-append_seam}
use Rattle.std.proofs.lemmas.List.{append-nil, drop_all, map-append}
use Rattle.std.proofs.lemmas.List.Concat.{flat_map-append}
use Rattle.bank_parts.specs.declared.parts.Parts.{Parts}
use Rattle.edit_forms.specs.declared.edit.Edit.{Edit}
use Rattle.edit_refusals.specs.Edits.{raw, refusal}
use Rattle.bank_edits.specs.Runs.{AllAccepted, after_all}
use Rattle.bank_edits.proofs.Law.{undone}
use Rattle.script_comments.specs.declared.along.EditComments.{EditComments}
use Rattle.script_comments.specs.Comments.{comment_of}
use Rattle.script_comments.specs.Along.{comments_of, pieces, comments_in, Holds, CommentsFollowTheBank}
use Rattle.script_comments.specs.Along.{CommentsAlongAreComments}
use Rattle.script_comments.proofs.CommentLaws.{are_comments}

-- ---- the laws

pub follow : CommentsFollowTheBank
follow b [] k = refl
follow b (e ∷ es) zero = refl
follow b (e ∷ es) (suc k) = follow (raw b e) es k

pub along_are : CommentsAlongAreComments
along_are b [] s h = tt
along_are b (e ∷ es) s h = (are_comments b e s, along_are (raw b e) es (undone b e s h.0).sound h.1)

-- ---- comments that are kept

pieces_all : (cs : List (List ℕ)) → pieces (map length cs) (flat_map (λ c. c) cs) ≡ cs
pieces_all [] = refl
pieces_all (c ∷ cs) =
    let rest = flat_map (λ c. c) cs in
    ap (λ (first : List ℕ). first ∷ pieces (map length cs) (drop (length c) (c ++ rest))) (take-append_seam c rest)
    ∙ ap (λ (bytes : List ℕ). c ∷ pieces (map length cs) bytes) (drop-append_seam c rest)
    ∙ ap (λ (others : List (List ℕ)). c ∷ others) (pieces_all cs)

pub kept_are : (kept : EditComments) (cs : List (List ℕ)) → Holds kept cs → comments_in kept ≡ cs
kept_are kept cs h = (λ i. pieces (h.lengths i) (h.bytes i)) ∙ pieces_all cs

pub keeps_more : (old new : EditComments) (cs : List (List ℕ)) (c : List ℕ) → Holds old cs
    → new.bytes.items ≡ old.bytes.items ++ c → new.lengths.items ≡ old.lengths.items ++ length c ∷ []
    → Holds new (cs ++ c ∷ [])
keeps_more old new cs c h bytes lengths = record {
  bytes =
      bytes ∙ ap (λ (t : List ℕ). t ++ c) h.bytes
      ∙ sym
      (flat_map-append (λ c. c) cs (c ∷ []) ∙ ap (λ (t : List ℕ). flat_map (λ c. c) cs ++ t) (append-nil c));
  lengths =
      lengths ∙ ap (λ (ns : List ℕ). ns ++ length c ∷ []) h.lengths ∙ sym (map-append length cs (c ∷ []));
}

-- ---- the loop

-- the comments of the edits before are kept, and those of the others are still to be added
pub record Going (first now : Parts) (edits rest : List Edit) (kept : EditComments) : Type 0 where
  pub done : List (List ℕ)
  pub holds : Holds kept done
  pub comments : comments_of first edits ≡ done ++ comments_of now rest
  pub bank : after_all first edits ≡ after_all now rest
  pub accepted : AllAccepted first edits → AllAccepted now rest

pub going_start : (b : Parts) (edits : List Edit) (kept : EditComments) → Holds kept [] → Going b b edits edits kept
going_start b edits kept h = record { done = []; holds = h; comments = refl; bank = refl; accepted = λ a. a }

pub next : (edits : List Edit) (i : ℕ) (e : Edit) → i < length edits → e ≡ get_or edits i e
    → drop i edits ≡ e ∷ drop (i + 1) edits
next edits i e lt is =
    drop-cons edits i e lt ∙ ap (λ (x : Edit). x ∷ drop (suc i) edits) (sym is)
    ∙ (let a : i + 1 ≡ suc i = omega arith in rw a refl)

going_on : (first now later : Parts) (edits rest : List Edit) (e : Edit) (old new : EditComments)
    → Going first now edits (e ∷ rest) old
    → ((cs : List (List ℕ)) → Holds old cs → Holds new (cs ++ comment_of now e ∷ [])) → later ≡ raw now e
    → Going first later edits rest new
going_on first now later edits rest e old new s add change =
    subst (λ (b : Parts). Going first b edits rest new) (sym change)
    (record {
      done = s.done ++ comment_of now e ∷ [];
      holds = add s.done s.holds;
      comments =
          s.comments ∙ sym (append_assoc s.done (comment_of now e ∷ []) (comments_of (raw now e) rest));
      bank = s.bank;
      accepted = λ a. (s.accepted a).1;
    })

pub going_step : (first now later : Parts) (edits : List Edit) (i : ℕ) (e : Edit) (old new : EditComments)
    → Going first now edits (drop i edits) old → i < length edits → e ≡ get_or edits i e
    → ((cs : List (List ℕ)) → Holds old cs → Holds new (cs ++ comment_of now e ∷ [])) → later ≡ raw now e
    → Going first later edits (drop (i + 1) edits) new
going_step first now later edits i e old new s lt is add change =
    going_on first now later edits (drop (i + 1) edits) e old new
    (subst (λ (rest : List Edit). Going first now edits rest old) (next edits i e lt is) s) add change

pub next_accepted : (first now : Parts) (edits : List Edit) (i : ℕ) (e : Edit) (kept : EditComments)
    → Going first now edits (drop i edits) kept → i < length edits → e ≡ get_or edits i e → AllAccepted first edits
    → refusal now e ≡ None
next_accepted first now edits i e kept s lt is a =
    (subst (λ (rest : List Edit). AllAccepted now rest) (next edits i e lt is) (s.accepted a)).0.accepted

pub going_end : (first now : Parts) (edits : List Edit) (i : ℕ) (kept : EditComments)
    → Going first now edits (drop i edits) kept → length edits ≤ i
    → (comments_in kept ≡ comments_of first edits) × (now ≡ after_all first edits)
going_end first now edits i kept s over =
    let e = drop_all i edits over in (
      kept_are kept s.done s.holds
          ∙ sym
          (s.comments ∙ ap (λ (rest : List Edit). s.done ++ comments_of now rest) e ∙ append-nil s.done),
      sym (s.bank ∙ ap (λ (rest : List Edit). after_all now rest) e),
    )
