-- Notes whose presets are kept, with all zones or with those that they select.
use Rattle.std.specs.Prelude.{◌==◌, ◌&&◌, ◌||◌}
use Rattle.std.specs.List.{AllByRecursion}
use Rattle.std.proofs.Common.{◌≡◌, ℕ, List, [], ◌∷◌, Bool, true, false, Option, None, Result, Ok, Err, refl, sym, ap, subst, ◌∙◌}
use Rattle.std.proofs.Common.{eq-eqb}
use Rattle.bank_parts.specs.declared.parts.Parts.{Parts}
use Rattle.bank_format.specs.declared.fault.ReadFault.{ReadFault}
use Rattle.bank_format.specs.ReadChecks.{fault_of}
use Rattle.hydra_records.specs.Records.{AreBytes}
use Rattle.bank_edits.specs.Runs.{after_all}
use Rattle.script_notes.specs.declared.fault.NoteFault.{NoteFault}
use Rattle.script_notes.specs.Notes.{Numbers, notes_of}
use Rattle.wave_file.specs.Wave.{wave}
use Rattle.plan_edits.specs.Playing.{IsKeepingPlayed, is_among, is_like}
use Rattle.program_commands.specs.declared.plans.Zones.{Zones}
use Rattle.program_commands.specs.declared.plans.Zones.TheVariants.{All, Played}
use Rattle.program_reports.specs.declared.run_fault.RunFault.{RunFault}
use Rattle.sfbank.specs.Outcome.{Done, after_notes, after_reading, bank_in, play_outcome}
use Rattle.sfbank.specs.Written.{FailsBefore}
use Rattle.sfbank.specs.Purposes.{Purpose, keeping_notes, keeping_of, keeping_played, notes_read, promise_of}
use Rattle.sfbank.specs.PlannedEdits.{IsFound, IsPlanned, NotesAreUndone, NotesRenderSame}
use Rattle.sfbank.specs.Steps.{IsReadAs}
use Rattle.sfbank.proofs.Endings.{fails_through}
use Rattle.sfbank.proofs.FoundEdits.{at_read}
use Rattle.sfbank.proofs.PlannedEdits.{no_fault, plan_is_undone, played_after, played_renders_same}

-- ---- reading

pub notes_parsed : (parsed : Result (List Numbers) NoteFault) (ns : List Numbers) → notes_read parsed ≡ Ok ns
    → parsed ≡ Ok ns
notes_parsed (Ok ms) ns e = ap (λ (r : Result (List Numbers) RunFault). as_notes r) e
  where
    as_notes : Result (List Numbers) RunFault → Result (List Numbers) NoteFault
    as_notes (Ok ms) = Ok ms
    as_notes (Err fault) = Ok ns
notes_parsed (Err fault) ns e = absurd cc

-- the notes have a fault
pub notes_fail : (file text : List ℕ) (b : Parts) (zones : Zones) (fault : RunFault) → IsReadAs file b
    → FailsBefore fault (notes_read (notes_of text)) → FailsBefore fault (keeping_played zones file text)
notes_fail file text b zones fault r h =
    subst (λ (o : Result Purpose RunFault). FailsBefore fault o)
    (sym (at_read file b (keeping_notes zones (notes_read (notes_of text))) r))
    (fails_through (keeping_notes zones) (λ f. refl) fault (notes_read (notes_of text)) h)

-- both are read
pub keeps : (zones : Zones) (file text : List ℕ) (b : Parts) (ns : List Numbers) → IsReadAs file b
    → notes_of text ≡ Ok ns → keeping_played zones file text ≡ Ok (keeping_of zones ns)
keeps zones file text b ns r e =
    at_read file b (keeping_notes zones (notes_read (notes_of text))) r
    ∙ ap (λ (p : Result (List Numbers) NoteFault). keeping_notes zones (notes_read p)) e

-- ---- notes of their own list

or_true : (b : Bool) → (b || true) ≡ true
or_true true = refl
or_true false = refl

among_more : (m : Numbers) (list ns : List Numbers) → AllByRecursion (λ n. is_among list n ≡ true) ns
    → AllByRecursion (λ n. is_among (m ∷ list) n ≡ true) ns
among_more m list [] h = tt
among_more m list (n ∷ ns) h =
    (ap (λ (b : Bool). is_like n m || b) h.0 ∙ or_true (is_like n m), among_more m list ns h.1)

self_equal : (x : ℕ) → (x == x) ≡ true
self_equal x = eq-eqb x x refl

like_itself : (n : Numbers) → is_like n n ≡ true
like_itself n =
    λ i. self_equal n.bank i && self_equal n.number i && self_equal n.key i && self_equal n.velocity i

among_own : (ns : List Numbers) → AllByRecursion (λ n. is_among ns n ≡ true) ns
among_own [] = tt
among_own (n ∷ ns) =
    (ap (λ (b : Bool). b || is_among ns n) (like_itself n), among_more n ns ns (among_own ns))

-- ---- what follows

same_purpose : (p q : Purpose) (r : Result Purpose RunFault) → r ≡ Ok p → r ≡ Ok q → p ≡ q
same_purpose p q r e h = ap (λ (o : Result Purpose RunFault). purpose_of o) (sym e ∙ h)
  where
    purpose_of : Result Purpose RunFault → Purpose
    purpose_of (Ok x) = x
    purpose_of (Err fault) = p

-- the notes render as before, for edits that keep what they play
by_zones : (zones : Zones) (file notes : List ℕ) (ns : List Numbers) (done : Done) → AreBytes file → notes_of notes ≡ Ok ns
    → IsPlanned (promise_of (keeping_of zones ns)) file done → play_outcome done.out notes ≡ play_outcome file notes
by_zones All file notes ns done bytes e p = played_renders_same file notes ns done bytes e p
by_zones Played file notes ns done bytes e p =
    played_after (IsKeepingPlayed ns) file notes done p bytes
    (ap (after_notes (after_all (bank_in file) p.edits)) e
    ∙ ap (λ xs. Ok (wave xs)) (sym (p.promised.same ns (among_own ns)))
    ∙ sym (ap (after_notes (bank_in file)) e))

pub notes_render_same : (zones : Zones) (file notes : List ℕ) → AreBytes file → NotesRenderSame zones file notes
notes_render_same zones file notes bytes done f = by_notes (notes_of notes) refl
  where
    none : fault_of file ≡ None
    none = no_fault (promise_of f.purpose) file done f.planned

    wanted : keeping_played zones file notes ≡ keeping_notes zones (notes_read (notes_of notes))
    wanted = ap (λ (o : Option ReadFault). after_reading o (keeping_notes zones (notes_read (notes_of notes)))) none

    by_notes : (parsed : Result (List Numbers) NoteFault) → notes_of notes ≡ parsed
        → play_outcome done.out notes ≡ play_outcome file notes
    by_notes (Ok ns) e =
        let same : f.purpose ≡ keeping_of zones ns =
        same_purpose f.purpose (keeping_of zones ns) (keeping_played zones file notes) f.is_wanted
        (wanted ∙ ap (λ (p : Result (List Numbers) NoteFault). keeping_notes zones (notes_read p)) e) in
        by_zones zones file notes ns done bytes e
        (subst (λ (q : Purpose). IsPlanned (promise_of q) file done) same f.planned)
    by_notes (Err fault) e =
        let fails = wanted ∙ ap (λ (p : Result (List Numbers) NoteFault). keeping_notes zones (notes_read p)) e in
        let wrong : Ok f.purpose ≡ Err _ = sym f.is_wanted ∙ fails in absurd cc

pub notes_are_undone : (zones : Zones) (file notes : List ℕ) → AreBytes file → NotesAreUndone zones file notes
notes_are_undone zones file notes bytes purpose e = plan_is_undone (promise_of purpose) file bytes
