-- Runs whose edits a plan finds.
use Rattle.std.specs.Prelude.{◌==◌, ◌&&◌, ◌||◌}
use Rattle.std.specs.List.{AllByRecursion}
use Rattle.std.proofs.Common.{eq-eqb}
use Rattle.std.proofs.Common.{◌≡◌, ℕ, List, [], ◌∷◌, Bool, true, false, Option, Some, None, Result, Ok, Err, map, refl, sym, ap, subst, inl, inr, ◌∙◌}
use Rattle.bank_parts.specs.declared.parts.Parts.{Parts}
use Rattle.bank_format.specs.declared.fault.Counts.{Counts}
use Rattle.bank_format.specs.declared.fault.ReadFault.{ReadFault}
use Rattle.bank_format.specs.Reading.{Content}
use Rattle.bank_format.specs.ReadChecks.{fault_of, ReadsAs}
use Rattle.bank_parts.specs.Sound.{IsSound}
use Rattle.hydra_records.specs.Records.{AreBytes}
use Rattle.bank_format.specs.Canon.{canon}
use Rattle.bank_format.proofs.RoundTrip.{reads-again}
use Rattle.bank_format.proofs.ReadValid.{read_valid, read_fits}
use Rattle.edit_forms.specs.declared.edit.Edit.{Edit}
use Rattle.bank_edits.specs.Runs.{AllAccepted, after_all}
use Rattle.bank_edits.proofs.RunLaw.{all_undone}
use Rattle.edit_script.specs.Script.{script_of}
use Rattle.edit_script.specs.Printing.{texts_of, numbered}
use Rattle.script_notes.specs.declared.fault.NoteFault.{NoteFault}
use Rattle.script_notes.specs.Notes.{Numbers, notes_of}
use Rattle.mixer.specs.Render.{render}
use Rattle.wave_file.specs.Wave.{wave}
use Rattle.plan_edits.specs.Tidying.{IsTidying}
use Rattle.plan_presets.specs.declared.numbers.PresetNumbers.{PresetNumbers}
use Rattle.plan_presets.specs.declared.numbers.TakenPreset.{TakenPreset}
use Rattle.plan_presets.specs.declared.numbers.CopiedMember.{CopiedMember}
use Rattle.plan_copy.specs.Copying.{IsCopying}
use Rattle.plan_take.specs.RemovingDuplicates.{IsRemovingDuplicates}
use Rattle.plan_take.specs.Taking.{IsTaking, KeepsOthers, on_preset}
use Rattle.plan_edits.specs.Keeping.{IsKeeping, is_listed, is_played}
use Rattle.edit_script.proofs.LineLaws.{printed_is_read}
use Rattle.program_commands.specs.declared.words.Forms.TheVariants.{Every}
use Rattle.plan_edits.specs.declared.fault.PlanFault.{PlanFault}
use Rattle.plan_edits.specs.declared.fault.PlanFault.TheVariants.{Full, Defect, OutOfMemory}
use Rattle.program_reports.specs.declared.run_fault.RunFault.{RunFault}
use Rattle.program_reports.specs.declared.run_fault.RunFault.TheVariants as run
use Rattle.sfbank.specs.Outcome.{Done, both_texts, after_script, after_reading, bank_in, outcome, after_notes}
use Rattle.sfbank.specs.Outcome.{play_outcome}
use Rattle.sfbank.specs.Written.{Writers, Delivers, FailsBefore}
use Rattle.sfbank.specs.Steps.{IsReadAs}
use Rattle.sfbank.specs.Purposes.{Promise, Purpose, Serves, presets_of, promise_of}
use Rattle.sfbank.specs.PlannedEdits.{IsPlanned, MayEnd, HasTexts, RunsPlan, of_plan}
use Rattle.sfbank.specs.PlannedEdits.{PlanIsUndone, TidiedRendersSame, OnlyPlays, KeptRendersSame, PlayedRendersSame}
use Rattle.sfbank.specs.PlannedEdits.{CopyRendersSame, TakenRenderSame, OthersRenderSame}
use Rattle.sfbank.proofs.Restores.{all_fit, after_numbered, edits_numbered, reading_done, script_done, restores}
use Rattle.sfbank.proofs.RenderLaws.{played_on}
use Rattle.sfbank.proofs.Faults.{at_bank}
use Rattle.sfbank.proofs.Endings.{ends_early, ends_with, fails_through}

-- ---- a plan that finds edits

unfoldable pub planned : (promise : Promise) (file : List ℕ) (b : Parts) (counts : Counts) (done : Done) → ReadsAs file b counts
    → HasTexts promise b done → IsPlanned promise file done
unfolding outcome
planned promise file b counts done r h = record {
  edits = h.edits;
  promised = subst (λ (x : Parts). promise x h.edits) (sym (ap (λ (c : Content). c.bank) r.1)) h.promised;
  is_accepted = subst (λ (x : Parts). AllAccepted x h.edits) (sym (ap (λ (c : Content). c.bank) r.1)) h.is_accepted;
  scripted =
      at_bank Every file (texts_of h.edits) b counts r
      ∙ ap (after_script b) (printed_is_read h.edits (all_fit b h.edits h.is_accepted))
      ∙ after_numbered b h.edits h.is_accepted
      ∙ ap (λ (d : Done). Ok d) (sym h.texts);
}

-- a promise that serves a purpose
pub serves_purpose : (promise : Promise) (purpose : Purpose) (b : Parts) (done : Done) → Serves promise purpose
    → HasTexts promise b done → HasTexts (promise_of purpose) b done
serves_purpose promise purpose b done serves h = record {
  edits = h.edits;
  promised = serves b h.edits h.promised;
  is_accepted = h.is_accepted;
  texts = h.texts;
}

pub run_finds : {U : Type 0} (purpose : Purpose) (wanted : Result Purpose RunFault) (w : Writers) (file : List ℕ)
    (b : Parts) (done : Done) (r : Result U RunFault) → wanted ≡ Ok purpose → IsReadAs file b
    → HasTexts (promise_of purpose) b done → Delivers w done r → RunsPlan wanted w file r
run_finds purpose wanted w file b done r e read h d = record {
  found = Ok done;
  may_end = record {
    purpose = purpose;
    is_wanted = e;
    planned = planned (promise_of purpose) file b read.0 done read.1 h;
  };
  runs = ends_with w (Ok done) done r refl d;
}

-- ---- a plan that finds none

-- what an outcome without edits is
abbrev without : Result Purpose RunFault → Result Done RunFault
without (Ok purpose) = Err run.PlanFailed
without (Err fault) = Err fault

may_find_none : (wanted : Result Purpose RunFault) (file : List ℕ) → MayEnd wanted file (without wanted)
may_find_none (Ok purpose) file = inr (record { purpose = purpose; is_wanted = refl; failed = tt })
may_find_none (Err fault) file = inl refl

pub run_finds_none : (U : Type 0) (purpose : Purpose) (wanted : Result Purpose RunFault) (out undo : Option (List ℕ))
    (file : List ℕ) (fault : PlanFault) → wanted ≡ Ok purpose
    → RunsPlan {U = U} wanted (record { out = out; out_new = out; undo = undo; undo_new = undo }) file (Err (of_plan fault))
run_finds_none U purpose wanted out undo file (Full limit) e = record {
  found = Err (run.Full limit);
  may_end = inr (record { purpose = purpose; is_wanted = e; failed = tt });
  runs = ends_early U out undo (Err (run.Full limit)) (run.Full limit) refl;
}
run_finds_none U purpose wanted out undo file Defect e = record {
  found = Err run.PlanFailed;
  may_end = inr (record { purpose = purpose; is_wanted = e; failed = tt });
  runs = ends_early U out undo (Err run.PlanFailed) run.PlanFailed refl;
}
run_finds_none U purpose wanted out undo file OutOfMemory e = record {
  found = Err run.PlanFailed;
  may_end = inr (record { purpose = purpose; is_wanted = e; failed = tt });
  runs = ends_early U out undo (Err run.PlanFailed) run.Memory tt;
}

pub run_fails : (U : Type 0) (wanted : Result Purpose RunFault) (out undo : Option (List ℕ)) (file : List ℕ)
    (fault : RunFault) → FailsBefore fault wanted
    → RunsPlan {U = U} wanted (record { out = out; out_new = out; undo = undo; undo_new = undo }) file (Err fault)
run_fails U wanted out undo file fault h = record {
  found = without wanted;
  may_end = may_find_none wanted file;
  runs = ends_early U out undo (without wanted) fault (fails_through without (λ f. refl) fault wanted h);
}

-- ---- what follows

record Read (promise : Promise) (file : List ℕ) (done : Done) (p : IsPlanned promise file done) : Type 0 where
  no_fault : fault_of file ≡ None
  sound : IsSound (bank_in file)
  parses : script_of (texts_of p.edits) ≡ Ok (numbered 1 p.edits)
  texts : done ≡ both_texts (bank_in file) p.edits

read_of : (promise : Promise) (file : List ℕ) (done : Done) (p : IsPlanned promise file done) → AreBytes file
    → Read promise file done p
unfolding outcome
read_of promise file done p bytes =
    let b = bank_in file in
    let read = reading_done (fault_of file) (after_script b (script_of (texts_of p.edits))) done p.scripted in
    let parses = printed_is_read p.edits (all_fit b p.edits p.is_accepted) in
    record {
      no_fault = read.0;
      sound = record { valid = read_valid file bytes read.0; fits = read_fits file bytes };
      parses = parses;
      texts =
          (script_done b (numbered 1 p.edits) done (ap (after_script b) (sym parses) ∙ read.1)).texts
          ∙ ap (both_texts b) (edits_numbered 1 p.edits);
    }

-- a file for which edits were found is a bank
pub no_fault : (promise : Promise) (file : List ℕ) (done : Done) → IsPlanned promise file done → fault_of file ≡ None
unfolding outcome
no_fault promise file done p =
    (reading_done (fault_of file) (after_script (bank_in file) (script_of (texts_of p.edits))) done p.scripted).0

pub plan_is_undone : (promise : Promise) (file : List ℕ) → AreBytes file → PlanIsUndone promise file
plan_is_undone promise file bytes done p =
    let r = read_of promise file done p bytes in
    restores file (texts_of p.edits) bytes done (numbered 1 p.edits) p.scripted r.parses
    ∙ ap (λ (es : List Edit). Ok (record { out = canon (bank_in file); undo = texts_of es })) (edits_numbered 1 p.edits)

-- on the written file, notes have the outcome that they have on the edited bank
pub played_after : (promise : Promise) (file notes : List ℕ) (done : Done) (p : IsPlanned promise file done) → AreBytes file
    → after_notes (after_all (bank_in file) p.edits) (notes_of notes) ≡ after_notes (bank_in file) (notes_of notes)
    → play_outcome done.out notes ≡ play_outcome file notes
played_after promise file notes done p bytes same =
    let b = bank_in file in
    let r = read_of promise file done p bytes in
    let end : Parts = after_all b p.edits in
    let end_sound = (all_undone b p.edits r.sound p.is_accepted).sound in
    ap (λ (x : Done). play_outcome x.out notes) r.texts
    ∙ played_on (canon end) notes end _ (reads-again end end_sound.valid end_sound.fits)
    ∙ same
    ∙ sym (played_on file notes b _ (r.no_fault, refl))

-- a promise after which all notes render as before
abbrev KeepsAll : Promise → Type 0
KeepsAll promise =
    (b : Parts) (edits : List Edit) (ns : List Numbers) → promise b edits → render b ns ≡ render (after_all b edits) ns

all_render_same : (promise : Promise) (file notes : List ℕ) (done : Done) → KeepsAll promise → AreBytes file
    → IsPlanned promise file done → play_outcome done.out notes ≡ play_outcome file notes
all_render_same promise file notes done keeps bytes p = played_after promise file notes done p bytes (by_notes (notes_of notes))
  where
    by_notes : (parsed : Result (List Numbers) NoteFault)
        → after_notes (after_all (bank_in file) p.edits) parsed ≡ after_notes (bank_in file) parsed
    by_notes (Ok ns) = ap (λ xs. Ok (wave xs)) (sym (keeps (bank_in file) p.edits ns p.promised))
    by_notes (Err fault) = refl

pub tidied_renders_same : (merge : Bool) (file : List ℕ) → AreBytes file → TidiedRendersSame merge file
tidied_renders_same true file bytes done notes p =
    all_render_same IsRemovingDuplicates file notes done (λ b edits ns h. h.same ns) bytes p
tidied_renders_same false file bytes done notes p =
    all_render_same IsTidying file notes done (λ b edits ns h. h.same ns) bytes p

pub kept_renders_same : (kept : List PresetNumbers) (file : List ℕ) → AreBytes file → KeptRendersSame kept file
kept_renders_same kept file bytes done notes p only =
    played_after (IsKeeping kept) file notes done p bytes (by_notes (notes_of notes) only)
  where
    by_notes : (parsed : Result (List Numbers) NoteFault) → OnlyPlays kept parsed
        → after_notes (after_all (bank_in file) p.edits) parsed ≡ after_notes (bank_in file) parsed
    by_notes (Ok ns) only = ap (λ xs. Ok (wave xs)) (sym (p.promised.same ns only))
    by_notes (Err fault) only = refl

-- ---- presets of another bank

-- a promise that takes these presets
abbrev Takes : Promise → Parts → List TakenPreset → Type 0
Takes promise from presets = (b : Parts) (edits : List Edit) → promise b edits → IsTaking from presets b edits

-- notes that render on the edited bank as others do on another bank
renders_as : (promise : Promise) (file other notes played : List ℕ) (done : Done) (found : IsPlanned promise file done)
    (ns ms : List Numbers) → AreBytes file → fault_of other ≡ None → notes_of notes ≡ Ok ns → notes_of played ≡ Ok ms
    → render (after_all (bank_in file) found.edits) ns ≡ render (bank_in other) ms
    → play_outcome done.out notes ≡ play_outcome other played
renders_as promise file other notes played done found ns ms bytes no_fault e d same =
    let b = bank_in file in
    let from = bank_in other in
    let r = read_of promise file done found bytes in
    let end : Parts = after_all b found.edits in
    let end_sound = (all_undone b found.edits r.sound found.is_accepted).sound in
    ap (λ (x : Done). play_outcome x.out notes) r.texts
    ∙ played_on (canon end) notes end _ (reads-again end end_sound.valid end_sound.fits)
    ∙ ap (after_notes end) e
    ∙ ap (λ xs. Ok (wave xs)) same
    ∙ sym (ap (after_notes from) d)
    ∙ sym (played_on other played from _ (no_fault, refl))

pub taken_render_same : (promise : Promise) (other : List ℕ) (presets : List TakenPreset) (file : List ℕ)
    → Takes promise (bank_in other) presets → AreBytes file → TakenRenderSame promise other presets file
taken_render_same promise other presets file takes bytes done i p ns notes played found no_fault at e d =
    renders_as promise file other notes played done found (map (on_preset p.to) ns) (map (on_preset p.from) ns) bytes
    no_fault e d ((takes (bank_in file) found.edits found.promised).renders i p at ns)

-- a promise that keeps the sound of other presets
abbrev pub Keeps : Promise → List TakenPreset → Parts → Type 0
Keeps promise presets b = (edits : List Edit) → promise b edits → KeepsOthers presets b (after_all b edits)

pub others_render_same : (promise : Promise) (presets : List TakenPreset) (file : List ℕ)
    → Keeps promise presets (bank_in file) → AreBytes file → OthersRenderSame promise presets file
others_render_same promise presets file keeps bytes done ns notes p parsed only =
    played_after promise file notes done p bytes
    (ap (after_notes (after_all (bank_in file) p.edits)) parsed
    ∙ ap (λ xs. Ok (wave xs)) (sym (keeps p.edits p.promised ns only))
    ∙ sym (ap (after_notes (bank_in file)) parsed))

-- ---- the copy of a preset

pub copy_renders_same : (member : CopiedMember) (name : Option (List ℕ)) (file : List ℕ) → AreBytes file
    → CopyRendersSame member name file
copy_renders_same member name file bytes done i p ns notes played found at is_played e d =
    renders_as (IsCopying member name) file file notes played done found (map (on_preset p.to) ns)
    (map (on_preset p.from) ns) bytes (no_fault (IsCopying member name) file done found) e d
    ((found.promised.renders i p at is_played).1 ns)

-- ---- the presets of notes

listed_more : (k : PresetNumbers) (list : List PresetNumbers) (bank number : ℕ) → is_listed list bank number ≡ true
    → is_listed (k ∷ list) bank number ≡ true
listed_more k list bank number e =
    ap (λ (b : Bool). (k.bank == bank && k.number == number) || b) e ∙ or_true (k.bank == bank && k.number == number)
  where
    or_true : (b : Bool) → (b || true) ≡ true
    or_true true = refl
    or_true false = refl

all_more : (k : PresetNumbers) (list : List PresetNumbers) (ns : List Numbers)
    → AllByRecursion (λ n. is_played list n ≡ true) ns → AllByRecursion (λ n. is_played (k ∷ list) n ≡ true) ns
all_more k list [] h = tt
all_more k list (n ∷ ns) h = (listed_more k list n.bank n.number h.0, all_more k list ns h.1)

plays_own : (ns : List Numbers) → AllByRecursion (λ n. is_played (presets_of ns) n ≡ true) ns
plays_own [] = tt
plays_own (n ∷ ns) =
    let bank : (n.bank == n.bank) ≡ true = eq-eqb n.bank n.bank refl in
    let number : (n.number == n.number) ≡ true = eq-eqb n.number n.number refl in
    let own : (n.bank == n.bank && n.number == n.number) ≡ true =
    ap (λ (b : Bool). b && n.number == n.number) bank ∙ number in (
      ap (λ (b : Bool). b || is_listed (presets_of ns) n.bank n.number) own,
      all_more (record { bank = n.bank; number = n.number }) (presets_of ns) ns (plays_own ns),
    )

pub played_renders_same : PlayedRendersSame
played_renders_same file notes ns done bytes parsed p =
    kept_renders_same (presets_of ns) file bytes done notes p (subst (OnlyPlays (presets_of ns)) (sym parsed) (plays_own ns))
