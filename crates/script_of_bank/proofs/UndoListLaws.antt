-- The undo list of the edits that list a bank removes its parts, from the last to the first.
use Rattle.std.proofs.Common.{◌≡◌, ◌<◌, ◌+◌, ◌++◌, ℕ, suc, List, [], ◌∷◌, length, map, refl, sym, ◌∙◌, ap, arith}
use Rattle.std.proofs.lemmas.List.{append-nil, append_assoc}
use Rattle.bank_parts.specs.declared.texts.Texts.{Texts}
use Rattle.bank_parts.specs.declared.texts.InfoId.{InfoId}
use Rattle.bank_parts.specs.declared.texts.InfoId.TheVariants.{Engine, Name, Date, Engineers, Product, Copyright}
use Rattle.bank_parts.specs.declared.texts.InfoId.TheVariants.{Comment, Software}
use Rattle.bank_parts.specs.declared.parts.Kind.{Kind}
use Rattle.bank_parts.specs.declared.parts.Kind.TheVariants.{Mono, Right, Left, Linked}
use Rattle.bank_parts.specs.declared.parts.Head.{Head}
use Rattle.bank_parts.specs.declared.parts.ZoneOwner.{ZoneOwner}
use Rattle.bank_parts.specs.declared.parts.Sample.{Sample}
use Rattle.bank_parts.specs.declared.parts.Parts.{Parts}
use Rattle.bank_parts.specs.Texts.{text_of}
use Rattle.edit_forms.specs.declared.step.Step.{Step}
use Rattle.edit_forms.specs.declared.presets.PresetStep.TheVariants.{RemovePreset}
use Rattle.edit_forms.specs.declared.instruments.InstrumentStep.TheVariants.{RemoveInstrument}
use Rattle.edit_forms.specs.declared.samples.SampleStep.TheVariants.{RemoveSample}
use Rattle.edit_forms.specs.declared.texts.TextStep.TheVariants.{SetInfo}
use Rattle.edit_forms.specs.declared.step.Step.TheVariants as steps
use Rattle.edit_forms.specs.declared.edit.Edit.{Edit}
use Rattle.edit_forms.specs.declared.edit.Edit.TheVariants.{One}
use Rattle.bank_edits.specs.Runs.{undo_list}
use Rattle.script_of_bank.specs.BankEdits.{empty, empty_texts, in_turn, text_edits, texts_edits, sample_edits, kind_edits}
use Rattle.script_of_bank.specs.BankEdits.{link_edits, instrument_edits, preset_edits, edits_of_bank}
use Rattle.script_of_bank.specs.BankRemoval.{in_reverse, removals, mono_edits, unlink_edits, reset_edits, resets}
use Rattle.script_of_bank.specs.BankRemoval.{removal_edits, remove_preset, remove_instrument, remove_sample}
use Rattle.script_of_bank.proofs.SequenceLaws.{undo-then, undo-past, after_turns, undo_turns}
use Rattle.script_of_bank.proofs.Stages.{mono, reads_next, with_samples, with_links, with_instruments, with_presets}
use Rattle.script_of_bank.proofs.Stages.{sample_added_last, link_set_next, instrument_added_last, preset_added_last}
use Rattle.script_of_bank.proofs.ResultLaws.{with_texts, texts0, texts1, texts2, texts3, texts4, texts5, texts6, texts7}
use Rattle.script_of_bank.proofs.ResultLaws.{given0, given1, given2, given3, given4, given5, given6, edits1, edits2, edits3}
use Rattle.script_of_bank.proofs.ResultLaws.{edits4, edits5, edits6, edits7, texts_given, links_given}

-- ---- the texts

text_undone : (b : Parts) (id : InfoId) (text : List ℕ) → text_of b.texts id ≡ text_of empty_texts id
    → undo_list b (text_edits id text) ≡ reset_edits id text
text_undone b id [] e = refl
text_undone b id (byte ∷ text) e = ap (λ (old : List ℕ). One (steps.Text (SetInfo id old)) ∷ []) e

module _ (m : ℕ) (t : Texts) where
  abbrev down0 : List Edit
  down0 = reset_edits Engine t.engine

  abbrev down1 : List Edit
  down1 = reset_edits Name t.name ++ down0

  abbrev down2 : List Edit
  down2 = reset_edits Date t.date ++ down1

  abbrev down3 : List Edit
  down3 = reset_edits Engineers t.engineers ++ down2

  abbrev down4 : List Edit
  down4 = reset_edits Product t.product ++ down3

  abbrev down5 : List Edit
  down5 = reset_edits Copyright t.copyright ++ down4

  abbrev down6 : List Edit
  down6 = reset_edits Comment t.comment ++ down5

  abbrev at : Texts → Parts
  at u = with_texts m t u

  texts_undone : 0 < length t.engine → undo_list (empty m) (texts_edits t) ≡ resets t
  texts_undone h =
      undo-then (at (texts0 m t)) (at (texts1 m t)) (text_edits Engine t.engine) (edits1 m t) down0 (given0 m t h)
      (text_undone (at (texts0 m t)) Engine t.engine refl)
      ∙ undo-past (at (texts1 m t)) (at (texts2 m t)) (text_edits Name t.name) (edits2 m t) (reset_edits Name t.name)
      down0 (resets t) (given1 m t) (text_undone (at (texts1 m t)) Name t.name refl) (
      undo-past (at (texts2 m t)) (at (texts3 m t)) (text_edits Date t.date) (edits3 m t) (reset_edits Date t.date)
      down1 (resets t) (given2 m t) (text_undone (at (texts2 m t)) Date t.date refl) (
      undo-past (at (texts3 m t)) (at (texts4 m t)) (text_edits Engineers t.engineers) (edits4 m t)
      (reset_edits Engineers t.engineers) down2 (resets t) (given3 m t)
      (text_undone (at (texts3 m t)) Engineers t.engineers refl) (
      undo-past (at (texts4 m t)) (at (texts5 m t)) (text_edits Product t.product) (edits5 m t)
      (reset_edits Product t.product) down3 (resets t) (given4 m t)
      (text_undone (at (texts4 m t)) Product t.product refl) (
      undo-past (at (texts5 m t)) (at (texts6 m t)) (text_edits Copyright t.copyright) (edits6 m t)
      (reset_edits Copyright t.copyright) down4 (resets t) (given5 m t)
      (text_undone (at (texts5 m t)) Copyright t.copyright refl) (
      undo-past (at (texts6 m t)) (at (texts7 m t)) (text_edits Comment t.comment) (edits7 m t)
      (reset_edits Comment t.comment) down5 (resets t) (given6 m t)
      (text_undone (at (texts6 m t)) Comment t.comment refl) (
      ap (λ (l : List Edit). l ++ down6) (text_undone (at (texts7 m t)) Software t.software refl)))))))

-- ---- members that are removed

removed : {X : Type 0} (remove : ℕ → Step) (n : ℕ) (xs : List X)
    → in_reverse (λ (i : ℕ) (x : X). One (remove i) ∷ []) n xs ++ removals remove n ≡ removals remove (n + length xs)
removed remove n [] = ap (removals remove) (omega arith)
removed {X} remove n (x ∷ xs) =
    append_assoc (in_reverse (λ (i : ℕ) (x : X). One (remove i) ∷ []) (suc n) xs) (One (remove n) ∷ [])
    (removals remove n)
    ∙ (removed remove (suc n) xs ∙ ap (removals remove) (omega arith))

all_removed : {X : Type 0} (remove : ℕ → Step) (xs : List X)
    → in_reverse (λ (i : ℕ) (x : X). One (remove i) ∷ []) 0 xs ≡ removals remove (length xs)
all_removed {X} remove xs =
    sym (append-nil (in_reverse (λ (i : ℕ) (x : X). One (remove i) ∷ []) 0 xs))
    ∙ (removed remove 0 xs ∙ ap (removals remove) (omega arith))

-- ---- the links

kind_undone : (m : ℕ) (t : Texts) (done : List Sample) (s : Sample) (rest : List Sample) (kind : Kind)
    → undo_list (with_links m t done (s ∷ rest)) (kind_edits (length done) kind) ≡ mono_edits (length done) kind
kind_undone m t done s rest Mono = refl
kind_undone m t done s rest (Right link) = let e = reads_next done (mono s) (map mono rest) in rw e refl
kind_undone m t done s rest (Left link) = let e = reads_next done (mono s) (map mono rest) in rw e refl
kind_undone m t done s rest (Linked link) = let e = reads_next done (mono s) (map mono rest) in rw e refl

-- ---- the bank

pub accepted_back : (b : Parts) → 0 < length b.texts.engine → undo_list (empty b.minor) (edits_of_bank b) ≡ removal_edits b
accepted_back b h =
    let m = b.minor in
    let t = b.texts in
    let ss = b.samples in
    let is = b.instruments in
    let ps = b.presets in
    let es4 : List Edit = in_turn preset_edits 0 ps in
    let es3 : List Edit = in_turn instrument_edits 0 is ++ es4 in
    let es2 : List Edit = in_turn link_edits 0 ss ++ es3 in
    let es1 : List Edit = in_turn sample_edits 0 ss ++ es2 in
    let us0 : List Edit = resets t in
    let us1 : List Edit = removals remove_sample (length ss) ++ us0 in
    let us2 : List Edit = in_reverse unlink_edits 0 ss ++ us1 in
    let us3 : List Edit = removals remove_instrument (length is) ++ us2 in
    undo-then (empty m) (with_texts m t t) (texts_edits t) es1 us0 (texts_given m t h) (texts_undone m t h)
    ∙ undo-past (with_samples m t [] ss) (with_samples m t ss []) (in_turn sample_edits 0 ss) es2
    (removals remove_sample (length ss)) us0 (removal_edits b)
    (after_turns (with_samples m t) sample_edits (sample_added_last m t) [] ss)
    (undo_turns (with_samples m t) sample_edits (sample_added_last m t)
    (λ (i : ℕ) (x : Sample). One (steps.Sample (RemoveSample i)) ∷ []) (λ done x rest. refl) [] ss
    ∙ all_removed remove_sample ss)
    (undo-past (with_links m t [] ss) (with_instruments m t ss [] is) (in_turn link_edits 0 ss) es3
    (in_reverse unlink_edits 0 ss) us1 (removal_edits b)
    (links_given m t ss is)
    (undo_turns (with_links m t) link_edits (link_set_next m t) unlink_edits
    (λ done x rest. kind_undone m t done x rest x.kind) [] ss)
    (undo-past (with_instruments m t ss [] is) (with_instruments m t ss is []) (in_turn instrument_edits 0
    is) es4 (removals remove_instrument (length is)) us2 (removal_edits b)
    (after_turns (with_instruments m t ss) instrument_edits (instrument_added_last m t ss) [] is)
    (undo_turns (with_instruments m t ss) instrument_edits (instrument_added_last m t ss)
    (λ (i : ℕ) (x : ZoneOwner (List ℕ)). One (steps.Instrument (RemoveInstrument i)) ∷ []) (λ done x rest. refl)
    [] is
    ∙ all_removed remove_instrument is)
    (ap (λ (l : List Edit). l ++ us3)
    (undo_turns (with_presets m t ss is) preset_edits (preset_added_last m t ss is)
    (λ (i : ℕ) (x : ZoneOwner Head). One (steps.Preset (RemovePreset i)) ∷ []) (λ done x rest. refl) [] ps ∙
    all_removed remove_preset ps))))
