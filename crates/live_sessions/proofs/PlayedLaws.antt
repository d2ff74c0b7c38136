-- The notes that were played are those of the session's events.
use Rattle.std.proofs.Common.{◌≡◌, ℕ, suc, ◌+◌, ◌-◌, ◌<◌, ◌≤◌, ◌&&◌, min, Bool, true, false, cond, nat_eq, nat_le, nat_lt, Option}
use Rattle.std.proofs.Common.{Some, None, List, [], ◌∷◌, ◌++◌, map, length, refl, sym, ap, subst, ◌∙◌, arith, append-nil}
use Rattle.std.proofs.Common.{append_assoc}
use Rattle.std.specs.Option.{option_map, option_map_or}
use Rattle.std.proofs.lemmas.Bool.Decides.{nat_tests}
use Rattle.std.proofs.lemmas.List.{map-append, length-append, length-map}
use Rattle.bank_parts.specs.declared.parts.Parts.{Parts}
use Rattle.script_notes.specs.declared.limits.TheConstants.{LAST_FRAME, MOST_NOTES}
use Rattle.script_notes.specs.Notes.{Numbers}
use Rattle.mixer.specs.declared.playing.Release.{Release}
use Rattle.mixer.specs.declared.playing.Release.TheVariants.{All}
use Rattle.mixer.specs.Pressed.{KeyEvent, Edited, Started, Pressed, Released, Stopped, Given, ends, frames_until, held_note}
use Rattle.mixer.specs.Stops.{least}
use Rattle.mixer.specs.Recorded.{played, key_frames}
use Rattle.mixer.proofs.RecordedLaws.{closed}
use Rattle.live_sessions.specs.declared.played.PlayedNote.{PlayedNote}
use Rattle.live_sessions.specs.PlayedNotes.{moved_to, with_note, with_played, end_after, ended_by, listed}
use Rattle.live_sessions.specs.Performances.{most}

-- ---- the notes so far, and those of the events that follow

-- how long after frame t a note with this handle ends, if these events follow; at last all notes end
abbrev end_later : ℕ → List KeyEvent → ℕ → ℕ
end_later t es handle = option_map_or (λ k. t + k) (frames_until handle (closed es)) 0

-- the note with its length, if these events follow frame t
abbrev note_by : ℕ → List KeyEvent → PlayedNote → Numbers
note_by t es p =
    record p.note { length = min (option_map_or (λ e. e) p.end_frame (end_later t es p.handle) - p.note.start) p.note.length }

abbrev pub listing : ℕ → List PlayedNote → List KeyEvent → List Numbers
listing t ps es = map (note_by t es) ps ++ played t (closed es)

-- a note list can have them, and the next handle is the number of the notes so far
pub record Fit (t next : ℕ) (ps : List PlayedNote) (es : List KeyEvent) : Type 0 where
  pub numbered : next ≡ length ps
  pub frames : t + key_frames es ≤ LAST_FRAME
  pub notes : length ps + length (played t (closed es)) ≤ MOST_NOTES

-- these events lead from one list of notes to another
pub record GoesOn (t u later : ℕ) (ps qs : List PlayedNote) (es fs : List KeyEvent) : Type 0 where
  pub fit : Fit u later qs fs
  pub same : listing t ps es ≡ listing u qs fs

same_notes : (t : ℕ) (es fs : List KeyEvent) → ((p : PlayedNote) → note_by t es p ≡ note_by t fs p) → (ps : List PlayedNote)
    → map (note_by t es) ps ≡ map (note_by t fs) ps
same_notes t es fs h [] = refl
same_notes t es fs h (p ∷ ps) = λ j. h p j ∷ same_notes t es fs h ps j

-- ---- an edit

pub edited_on : (t next : ℕ) (ps : List PlayedNote) (c : Parts) (es : List KeyEvent) → Fit t next ps (Edited c ∷ es)
    → GoesOn t t next ps ps (Edited c ∷ es) es
unfolding played key_frames frames_until
edited_on t next ps c es h =
    record { fit = record { numbered = h.numbered; frames = h.frames; notes = h.notes }; same = refl }

-- ---- a release

after_some : (t e : ℕ) (es fs : List KeyEvent) (is_released : Bool) (handle : ℕ) (n : Numbers)
    → (let p : PlayedNote = record { handle = handle; note = n; end_frame = end_after (Some e) is_released t } in
    let q : PlayedNote = record { handle = handle; note = n; end_frame = Some e } in note_by t es p ≡ note_by t fs q)
unfolding end_after
after_some t e es fs is_released handle n = refl

none_added : (t : ℕ) → t ≡ t + 0
none_added t = omega arith

after_none : (t : ℕ) (r : Release) (es : List KeyEvent) (handle : ℕ) (n : Numbers)
    → (let p : PlayedNote = record { handle = handle; note = n; end_frame = end_after None (ends r handle) t } in
    let q : PlayedNote = record { handle = handle; note = n; end_frame = None } in
    note_by t es p ≡ note_by t (Released r ∷ es) q)
unfolding end_after frames_until
after_none t r es handle n =
    let P : Bool → Type 0 = λ b.
    (let p : PlayedNote = record { handle = handle; note = n; end_frame = cond b (Some t) None } in
    let e : ℕ = option_map_or (λ k. t + k) (cond b (Some 0) (frames_until handle (closed es))) 0 in
    note_by t es p ≡ record n { length = min (e - n.start) n.length }) in
    let at : (b : Bool) → P b = elim [
      | true ↦ ap (λ (e : ℕ). let m : Numbers = record n { length = min (e - n.start) n.length } in m) (none_added t)
      | false ↦ refl
    ] in
    at (ends r handle)

released_note : (t : ℕ) (r : Release) (es : List KeyEvent) (handle : ℕ) (n : Numbers) (o : Option ℕ)
    → (let p : PlayedNote = record { handle = handle; note = n; end_frame = end_after o (ends r handle) t } in
    let q : PlayedNote = record { handle = handle; note = n; end_frame = o } in
    note_by t es p ≡ note_by t (Released r ∷ es) q)
released_note t r es handle n (Some e) = after_some t e es (Released r ∷ es) (ends r handle) handle n
released_note t r es handle n None = after_none t r es handle n

released_notes : (t : ℕ) (r : Release) (es : List KeyEvent) (ps : List PlayedNote)
    → map (note_by t (Released r ∷ es)) ps ≡ map (note_by t es) (map (ended_by r t) ps)
unfolding ended_by
released_notes t r es [] = refl
released_notes t r es (p ∷ ps) =
    λ j. sym (released_note t r es p.handle p.note p.end_frame) j ∷ released_notes t r es ps j

pub released_on : (t next : ℕ) (ps : List PlayedNote) (r : Release) (es : List KeyEvent) → Fit t next ps (Released r ∷ es)
    → GoesOn t t next ps (map (ended_by r t) ps) (Released r ∷ es) es
unfolding played key_frames
released_on t next ps r es h = record {
  fit = record {
    numbered = h.numbered ∙ sym (length-map ps (ended_by r t));
    frames = h.frames;
    notes = subst (λ (n : ℕ). n + length (played t (closed es)) ≤ MOST_NOTES) (sym (length-map ps (ended_by r t))) h.notes;
  };
  same = ap (λ (ns : List Numbers). ns ++ played t (closed es)) (released_notes t r es ps);
}

-- ---- an end of all voices

-- it ends a note as a release of all does
stopped_note : (t : ℕ) (es : List KeyEvent) (p : PlayedNote) → note_by t (Stopped ∷ es) p ≡ note_by t (Released All ∷ es) p
unfolding frames_until
stopped_note t es p = refl

pub stopped_on : (t next : ℕ) (ps : List PlayedNote) (es : List KeyEvent) → Fit t next ps (Stopped ∷ es)
    → GoesOn t t next ps (map (ended_by All t) ps) (Stopped ∷ es) es
unfolding played key_frames
stopped_on t next ps es h = record {
  fit = record {
    numbered = h.numbered ∙ sym (length-map ps (ended_by All t));
    frames = h.frames;
    notes = subst (λ (n : ℕ). n + length (played t (closed es)) ≤ MOST_NOTES) (sym (length-map ps (ended_by All t))) h.notes;
  };
  same =
      ap (λ (ns : List Numbers). ns ++ played t (closed es))
      (same_notes t (Stopped ∷ es) (Released All ∷ es) (stopped_note t es) ps ∙ released_notes t All es ps);
}

-- ---- a block of frames

later_end : (t m : ℕ) (o : Option ℕ)
    → option_map_or (λ k. t + k) (option_map (λ k. m + k) o) 0 ≡ option_map_or (λ k. t + m + k) o 0
later_end t m None = refl
later_end t m (Some k) = omega arith

later_note : (t m : ℕ) (es : List KeyEvent) (p : PlayedNote) → note_by t (Given m ∷ es) p ≡ note_by (t + m) es p
unfolding frames_until
later_note t m es p =
    ap
    (λ (e : ℕ).
    let n : Numbers = record p.note { length = min (option_map_or (λ e. e) p.end_frame e - p.note.start) p.note.length } in n)
    (later_end t m (frames_until p.handle (closed es)))

later_notes : (t m : ℕ) (es : List KeyEvent) (ps : List PlayedNote)
    → map (note_by t (Given m ∷ es)) ps ≡ map (note_by (t + m) es) ps
later_notes t m es [] = refl
later_notes t m es (p ∷ ps) = λ j. later_note t m es p j ∷ later_notes t m es ps j

given_here : (t m next : ℕ) (ps : List PlayedNote) (es : List KeyEvent) → Fit t next ps (Given m ∷ es)
    → GoesOn t (t + m) next ps ps (Given m ∷ es) es
unfolding played key_frames
given_here t m next ps es h = record {
  fit = record {
    numbered = h.numbered;
    frames = (let f : t + (m + key_frames es) ≤ LAST_FRAME = h.frames in omega (arith, f));
    notes = h.notes;
  };
  same = ap (λ (ns : List Numbers). ns ++ played (t + m) (closed es)) (later_notes t m es ps);
}

within_most : (t m : ℕ) (es : List KeyEvent) → t + key_frames (Given m ∷ es) ≤ LAST_FRAME → t + m ≡ min (t + m) most
unfolding key_frames
within_most t m es h = omega (arith, h)

pub given_on : (t m next : ℕ) (ps : List PlayedNote) (es : List KeyEvent) → Fit t next ps (Given m ∷ es)
    → GoesOn t (min (t + m) most) next ps ps (Given m ∷ es) es
given_on t m next ps es h =
    subst (λ (u : ℕ). GoesOn t u next ps ps (Given m ∷ es) es) (within_most t m es h.frames) (given_here t m next ps es h)

-- ---- a note that is pressed

-- at last every note ends
record EndsWithin (handle : ℕ) (es : List KeyEvent) : Type 0 where
  after : ℕ
  is : frames_until handle (closed es) ≡ Some after
  within : after ≤ key_frames es

ends_now : (handle : ℕ) (es : List KeyEvent) → frames_until handle (closed es) ≡ Some 0 → EndsWithin handle es
ends_now handle es e = record { after = 0; is = e; within = omega arith }

ends_within : (handle : ℕ) (es : List KeyEvent) → EndsWithin handle es
unfolding frames_until key_frames
ends_within handle [] = record { after = 0; is = refl; within = omega arith }
ends_within handle (Edited c ∷ es) =
    let k = ends_within handle es in record { after = k.after; is = k.is; within = k.within }
ends_within handle (Started n ∷ es) =
    let k = ends_within handle es in record { after = k.after; is = k.is; within = k.within }
ends_within handle (Pressed g n ∷ es) =
    let k = ends_within handle es in record { after = k.after; is = k.is; within = k.within }
ends_within handle (Released r ∷ es) =
    let k = ends_within handle es in
    let P : Bool → Type 0 = λ b. ends r handle ≡ b → EndsWithin handle (Released r ∷ es) in
    let at : (b : Bool) → P b = elim [
      | true ↦ λ e.
          record {
            after = 0;
            is = ap (λ (b : Bool). cond b (Some 0) (frames_until handle (closed es))) e;
            within = omega arith;
          }
      | false ↦ λ e.
          record {
            after = k.after;
            is = ap (λ (b : Bool). cond b (Some 0) (frames_until handle (closed es))) e ∙ k.is;
            within = k.within;
          }
    ] in
    at (ends r handle) refl
ends_within handle (Stopped ∷ es) = record { after = 0; is = refl; within = omega arith }
ends_within handle (Given m ∷ es) =
    let k = ends_within handle es in
    record {
      after = m + k.after;
      is = ap (option_map (λ j. m + j)) k.is;
      within = (let w : k.after ≤ key_frames es = k.within in omega (arith, w));
    }

-- a note list can have the note
moved_here : (t : ℕ) (n : Numbers) → t ≤ LAST_FRAME
    → moved_to t n ≡ Some (record n { start = t; length = min n.length (LAST_FRAME - t) })
unfolding moved_to
moved_here t n h = let e : nat_le t LAST_FRAME ≡ true = grind (arith, nat_tests, h) in rw e refl

added_note : (t handle : ℕ) (n : Numbers) (ps : List PlayedNote) → t ≤ LAST_FRAME → handle ≡ length ps
    → length ps < MOST_NOTES
    → with_played ps handle n t
    ≡ ps ++ (let p : PlayedNote = record { handle = handle; note = record n { start = t; length = min n.length (LAST_FRAME - t) }; end_frame = None } in p) ∷ []
added_note t handle n ps h at few =
    let next : nat_eq handle (length ps) ≡ true = grind (arith, nat_tests, at) in
    let less : nat_lt handle MOST_NOTES ≡ true = grind (arith, nat_tests, at, few) in
    (λ j. cond (next j && less j) (with_note ps handle (moved_to t n)) ps)
    ∙ ap (with_note ps handle) (moved_here t n h)

pressed_length : (t k l : ℕ) → t + k ≤ LAST_FRAME → min l k ≡ min (t + k - t) (min l (LAST_FRAME - t))
pressed_length t k l h = omega (arith, h)

pressed_note : (t handle : ℕ) (n : Numbers) (es : List KeyEvent) → t + key_frames es ≤ LAST_FRAME
    → record (held_note handle n (closed es)) { start = t }
    ≡ note_by t es (record { handle = handle; note = record n { start = t; length = min n.length (LAST_FRAME - t) }; end_frame = None })
unfolding held_note
pressed_note t handle n es h =
    let k = ends_within handle es in
    let within : t + k.after ≤ LAST_FRAME = (let w : k.after ≤ key_frames es = k.within in omega (arith, h, w)) in
    ap (λ (o : Option ℕ). let m : Numbers = record n { start = t; length = least n.length o } in m) k.is
    ∙ ap (λ (l : ℕ). let m : Numbers = record n { start = t; length = l } in m) (pressed_length t k.after n.length within)
    ∙ ap
    (λ (o : Option ℕ).
    let m : Numbers = record n {
      start = t;
      length = min (option_map_or (λ j. t + j) o 0 - t) (min n.length (LAST_FRAME - t));
    } in
    m)
    (sym k.is)

other_note : (t handle : ℕ) (n : Numbers) (es : List KeyEvent) (p : PlayedNote)
    → note_by t (Pressed handle n ∷ es) p ≡ note_by t es p
unfolding frames_until
other_note t handle n es p = refl

pub pressed_on : (t : ℕ) (ps : List PlayedNote) (handle : ℕ) (n : Numbers) (es : List KeyEvent)
    → Fit t handle ps (Pressed handle n ∷ es)
    → GoesOn t t (min (handle + 1) most) ps (with_played ps handle n t) (Pressed handle n ∷ es) es
unfolding played key_frames
pressed_on t ps handle n es h =
    let frames : t + key_frames es ≤ LAST_FRAME = h.frames in
    let notes : length ps + suc (length (played t (closed es))) ≤ MOST_NOTES = h.notes in
    let q : PlayedNote =
    record { handle = handle; note = record n { start = t; length = min n.length (LAST_FRAME - t) }; end_frame = None } in
    let added : with_played ps handle n t ≡ ps ++ q ∷ [] =
    added_note t handle n ps (omega (arith, frames)) h.numbered (omega (arith, notes)) in
    let rest : List Numbers = played t (closed es) in
    record {
      fit = record {
        numbered = subst (λ (qs : List PlayedNote). min (handle + 1) most ≡ length qs) (sym added)
            (let l = length-append ps (q ∷ []) in let at = h.numbered in omega (arith, notes, l, at));
        frames = frames;
        notes = subst (λ (qs : List PlayedNote). length qs + length rest ≤ MOST_NOTES) (sym added)
            (let l = length-append ps (q ∷ []) in omega (arith, notes, l));
      };
      same =
          (λ j. same_notes t (Pressed handle n ∷ es) es (other_note t handle n es) ps j ++ pressed_note t handle n es frames j ∷ rest)
          ∙ sym (append_assoc (map (note_by t es) ps) (note_by t es q ∷ []) rest)
          ∙ ap (λ (ns : List Numbers). ns ++ rest) (sym (map-append (note_by t es) ps (q ∷ [])))
          ∙ ap (λ (qs : List PlayedNote). map (note_by t es) qs ++ rest) (sym added);
    }

-- ---- at the end

last_note : (t : ℕ) (p : PlayedNote) → note_by t [] p ≡ listed t p
unfolding frames_until
last_note t p =
    ap
    (λ (e : ℕ).
    let n : Numbers = record p.note { length = min (option_map_or (λ e. e) p.end_frame e - p.note.start) p.note.length } in n)
    (sym (none_added t))

last_notes : (t : ℕ) (ps : List PlayedNote) → map (note_by t []) ps ≡ map (listed t) ps
last_notes t [] = refl
last_notes t (p ∷ ps) = λ j. last_note t p j ∷ last_notes t ps j

pub listing_last : (t : ℕ) (ps : List PlayedNote) → listing t ps [] ≡ map (listed t) ps
unfolding played
listing_last t ps = append-nil (map (note_by t []) ps) ∙ last_notes t ps
