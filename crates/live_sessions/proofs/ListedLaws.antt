-- The notes that were played fit into a note list.
use Rattle.std.proofs.Common.{◌≡◌, ℕ, suc, zero, ◌+◌, ◌-◌, ◌<◌, ◌≤◌, min, List, [], ◌∷◌, ◌++◌, take, length, map, Ok}
use Rattle.std.proofs.Common.{subst, sym, arith}
use Rattle.std.specs.List.{AllByRecursion}
use Rattle.std.specs.Option.{option_map_or}
use Rattle.std.proofs.lemmas.List.{length-append, length-map}
use Rattle.mixer.specs.declared.playing.Release.{Release}
use Rattle.script_notes.specs.declared.limits.TheConstants.{MOST_NOTES}
use Rattle.script_notes.specs.Notes.{notes_of}
use Rattle.script_of_notes.specs.NoteTexts.{IsListed, notes_text}
use Rattle.script_of_notes.proofs.ReadBackLaws.{notes_read_back}
use Rattle.live_sessions.specs.declared.played.PlayedNote.{PlayedNote}
use Rattle.live_sessions.specs.PlayedNotes.{AreListed, ended_by, listed}
use Rattle.live_sessions.proofs.NumberedNotes.{numbered_added, numbered_first, numbered_ended}

abbrev Each : List PlayedNote → Type 0
Each ps = AllByRecursion (λ (p : PlayedNote). IsListed p.note) ps

pub none_listed : AreListed []
none_listed = record { numbered = tt; each = tt; few = omega arith }

each_added : (ps : List PlayedNote) (p : PlayedNote) → Each ps → IsListed p.note → Each (ps ++ p ∷ [])
each_added [] p h fits = (fits, tt)
each_added (q ∷ ps) p h fits = (h.0, each_added ps p h.1 fits)

pub one_added : (ps : List PlayedNote) (p : PlayedNote) → AreListed ps → p.handle ≡ length ps → length ps < MOST_NOTES
    → IsListed p.note → AreListed (ps ++ p ∷ [])
one_added ps p h at few fits = record {
  numbered = numbered_added 0 ps p h.numbered (omega (arith, at));
  each = each_added ps p h.each fits;
  few = (let l = length-append ps (p ∷ []) in omega (arith, few, l));
}

each_first : (k : ℕ) (ps : List PlayedNote) → Each ps → Each (take k ps)
each_first zero ps h = tt
each_first (suc k) [] h = tt
each_first (suc k) (p ∷ ps) h = (h.0, each_first k ps h.1)

few_first : (k : ℕ) (ps : List PlayedNote) → length (take k ps) ≤ length ps
few_first zero ps = omega arith
few_first (suc k) [] = omega arith
few_first (suc k) (p ∷ ps) = (let h = few_first k ps in omega (arith, h))

pub first_listed : (k : ℕ) (ps : List PlayedNote) → AreListed ps → AreListed (take k ps)
first_listed k ps h = record {
  numbered = numbered_first k 0 ps h.numbered;
  each = each_first k ps h.each;
  few = (let few = few_first k ps in let all = h.few in omega (arith, few, all));
}

each_ended : (r : Release) (t : ℕ) (ps : List PlayedNote) → Each ps → Each (map (ended_by r t) ps)
unfolding ended_by
each_ended r t [] h = tt
each_ended r t (p ∷ ps) h = (h.0, each_ended r t ps h.1)

pub ended_listed : (r : Release) (t : ℕ) (ps : List PlayedNote) → AreListed ps → AreListed (map (ended_by r t) ps)
ended_listed r t ps h = record {
  numbered = numbered_ended r t 0 ps h.numbered;
  each = each_ended r t ps h.each;
  few = subst (λ (n : ℕ). n ≤ MOST_NOTES) (sym (length-map ps (ended_by r t))) h.few;
}

-- a note ends no later than it may
shorter : (start end most last : ℕ) → start + most ≤ last → start + min end most ≤ last
shorter start end most last h = omega (arith, h)

each_read : (t : ℕ) (ps : List PlayedNote) → Each ps → AllByRecursion IsListed (map (listed t) ps)
each_read t [] h = tt
each_read t (p ∷ ps) h = (
  record {
    note = record {
      ends = shorter p.note.start (option_map_or (λ e. e) p.end_frame t - p.note.start) p.note.length _ h.0.note.ends;
      key = h.0.note.key;
      velocity = h.0.note.velocity;
    };
    bank = h.0.bank;
    number = h.0.number;
  },
  each_read t ps h.1,
)

-- the text of the notes reads as them
pub recording_reads : (t : ℕ) (ps : List PlayedNote) → AreListed ps → notes_of (notes_text (map (listed t) ps)) ≡ Ok (map (listed t) ps)
recording_reads t ps h =
    notes_read_back (map (listed t) ps) (each_read t ps h.each)
    (subst (λ (n : ℕ). n ≤ MOST_NOTES) (sym (length-map ps (listed t))) h.few)
