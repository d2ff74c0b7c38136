-- The edits that list a bank lead to it.
use Rattle.std.proofs.Common.{◌≡◌, ◌<◌, ◌++◌, ℕ, List, [], ◌∷◌, length, refl, sym, ◌∙◌, ap, arith}
use Rattle.std.proofs.lemmas.List.{append-nil}
use Rattle.bank_parts.specs.declared.parts.ZoneOwner.{ZoneOwner}
use Rattle.bank_parts.specs.declared.parts.Sample.{Sample}
use Rattle.edit_forms.specs.declared.edit.Edit.{Edit}
use Rattle.bank_parts.specs.declared.texts.Texts.{Texts}
use Rattle.bank_parts.specs.declared.texts.InfoId.{InfoId}
use Rattle.bank_parts.specs.declared.texts.InfoId.TheVariants.{Engine, Name, Date, Engineers, Product, Copyright}
use Rattle.bank_parts.specs.declared.texts.InfoId.TheVariants.{Comment, Software}
use Rattle.bank_parts.specs.declared.parts.Parts.{Parts}
use Rattle.bank_parts.specs.Texts.{text_of}
use Rattle.bank_changes.specs.Texts.{text_set, info_set}
use Rattle.bank_edits.specs.Runs.{after_all}
use Rattle.script_of_bank.specs.BankEdits.{empty, empty_texts, in_turn, text_edits, texts_edits, sample_edits, link_edits}
use Rattle.script_of_bank.specs.BankEdits.{instrument_edits, preset_edits, edits_of_bank}
use Rattle.script_of_bank.proofs.SequenceLaws.{after-then, after_turns}
use Rattle.script_of_bank.proofs.Stages.{bank_of, with_samples, with_links, with_instruments, with_presets}
use Rattle.script_of_bank.proofs.Stages.{sample_added_last, link_set_next, instrument_added_last, preset_added_last}

-- ---- one text

text_set_same : (t : Texts) (id : InfoId) → text_set t id (text_of t id) ≡ t
text_set_same t Engine = refl
text_set_same t Name = refl
text_set_same t Date = refl
text_set_same t Engineers = refl
text_set_same t Product = refl
text_set_same t Copyright = refl
text_set_same t Comment = refl
text_set_same t Software = refl

-- where the text in the bank is empty, or the new text is not
pub text_given : (b : Parts) (id : InfoId) (text : List ℕ) → (text ≡ [] → text_of b.texts id ≡ [])
    → after_all b (text_edits id text) ≡ info_set b id text
text_given b id [] h =
    sym
    (ap (λ (t : Texts). record b { texts = t })
    (ap (λ (text : List ℕ). text_set b.texts id text) (sym (h refl)) ∙ text_set_same b.texts id))
text_given b id (byte ∷ text) h = refl

not_empty : (text : List ℕ) (P : Type 0) → 0 < length text → text ≡ [] → P
not_empty [] P h e = absurd (omega (arith, h))
not_empty (byte ∷ text) P h e = cc

-- ---- the eight texts

module _ (minor : ℕ) (t : Texts) where
  abbrev pub with_texts : Texts → Parts
  with_texts u = bank_of minor u [] [] []

  abbrev pub texts0 : Texts
  texts0 = empty_texts

  abbrev pub texts1 : Texts
  texts1 = record empty_texts { engine = t.engine }

  abbrev pub texts2 : Texts
  texts2 = record empty_texts { engine = t.engine; name = t.name }

  abbrev pub texts3 : Texts
  texts3 = record empty_texts { engine = t.engine; name = t.name; date = t.date }

  abbrev pub texts4 : Texts
  texts4 = record empty_texts { engine = t.engine; name = t.name; date = t.date; engineers = t.engineers }

  abbrev pub texts5 : Texts
  texts5 =
      record empty_texts
      { engine = t.engine; name = t.name; date = t.date; engineers = t.engineers; product = t.product }

  abbrev pub texts6 : Texts
  texts6 =
      record empty_texts {
        engine =
            t.engine;
        name =
            t.name;
        date = t.date;
        engineers = t.engineers;
        product = t.product;
        copyright = t.copyright;
      }

  abbrev pub texts7 : Texts
  texts7 =
      record empty_texts {
        engine =
            t.engine;
        name =
            t.name;
        date =
            t.date;
        engineers =
            t.engineers;
        product = t.product;
        copyright = t.copyright;
        comment = t.comment;
      }

  abbrev pub texts8 : Texts
  texts8 = t

  -- each text in order
  pub given0 : 0 < length t.engine → after_all (with_texts texts0) (text_edits Engine t.engine) ≡ with_texts texts1
  given0 h = text_given (with_texts texts0) Engine t.engine (not_empty t.engine (text_of empty_texts Engine ≡ []) h)

  pub given1 : after_all (with_texts texts1) (text_edits Name t.name) ≡ with_texts texts2
  given1 = text_given (with_texts texts1) Name t.name (λ e. refl)

  pub given2 : after_all (with_texts texts2) (text_edits Date t.date) ≡ with_texts texts3
  given2 = text_given (with_texts texts2) Date t.date (λ e. refl)

  pub given3 : after_all (with_texts texts3) (text_edits Engineers t.engineers) ≡ with_texts texts4
  given3 = text_given (with_texts texts3) Engineers t.engineers (λ e. refl)

  pub given4 : after_all (with_texts texts4) (text_edits Product t.product) ≡ with_texts texts5
  given4 = text_given (with_texts texts4) Product t.product (λ e. refl)

  pub given5 : after_all (with_texts texts5) (text_edits Copyright t.copyright) ≡ with_texts texts6
  given5 = text_given (with_texts texts5) Copyright t.copyright (λ e. refl)

  pub given6 : after_all (with_texts texts6) (text_edits Comment t.comment) ≡ with_texts texts7
  given6 = text_given (with_texts texts6) Comment t.comment (λ e. refl)

  pub given7 : after_all (with_texts texts7) (text_edits Software t.software) ≡ with_texts texts8
  given7 = text_given (with_texts texts7) Software t.software (λ e. refl)

  -- all texts, and the texts after the first k
  abbrev pub edits7 : List Edit
  edits7 = text_edits Software t.software

  abbrev pub edits6 : List Edit
  edits6 = text_edits Comment t.comment ++ edits7

  abbrev pub edits5 : List Edit
  edits5 = text_edits Copyright t.copyright ++ edits6

  abbrev pub edits4 : List Edit
  edits4 = text_edits Product t.product ++ edits5

  abbrev pub edits3 : List Edit
  edits3 = text_edits Engineers t.engineers ++ edits4

  abbrev pub edits2 : List Edit
  edits2 = text_edits Date t.date ++ edits3

  abbrev pub edits1 : List Edit
  edits1 = text_edits Name t.name ++ edits2

  pub texts_given : 0 < length t.engine → after_all (empty minor) (texts_edits t) ≡ with_texts t
  texts_given h =
      after-then (with_texts texts0) (with_texts texts1) (with_texts t) (text_edits Engine t.engine) edits1 (given0 h) (
      after-then (with_texts texts1) (with_texts texts2) (with_texts t) (text_edits Name t.name) edits2 (given1) (
      after-then (with_texts texts2) (with_texts texts3) (with_texts t) (text_edits Date t.date) edits3 (given2) (
      after-then (with_texts texts3) (with_texts texts4) (with_texts t) (text_edits Engineers t.engineers) edits4
      (given3) (
      after-then (with_texts texts4) (with_texts texts5) (with_texts t) (text_edits Product t.product) edits5 (given4) (
      after-then (with_texts texts5) (with_texts texts6) (with_texts t) (text_edits Copyright t.copyright) edits6
      (given5) (
      after-then (with_texts texts6) (with_texts texts7) (with_texts t) (text_edits Comment t.comment) edits7 (given6) (
      given7)))))))

-- ---- the bank

pub links_given : (m : ℕ) (t : Texts) (ss : List Sample) (is : List (ZoneOwner (List ℕ)))
    → after_all (with_links m t [] ss) (in_turn link_edits 0 ss) ≡ with_instruments m t ss [] is
links_given m t ss is =
    after_turns (with_links m t) link_edits (link_set_next m t) [] ss
    ∙ ap (λ (samples : List Sample). bank_of m t [] [] samples) (append-nil ss)

pub given : (b : Parts) → 0 < length b.texts.engine → after_all (empty b.minor) (edits_of_bank b) ≡ b
given b h =
    let m = b.minor in
    let t = b.texts in
    let ss = b.samples in
    let is = b.instruments in
    let es4 : List Edit = in_turn preset_edits 0 b.presets in
    let es3 : List Edit = in_turn instrument_edits 0 is ++ es4 in
    let es2 : List Edit = in_turn link_edits 0 ss ++ es3 in
    let es1 : List Edit = in_turn sample_edits 0 ss ++ es2 in
    after-then (empty m) (with_texts m t t) b (texts_edits t) es1 (texts_given m t h)
    (after-then (with_samples m t [] ss) (with_samples m t ss []) b (in_turn sample_edits 0 ss) es2
    (after_turns (with_samples m t) sample_edits (sample_added_last m t) [] ss)
    (after-then (with_links m t [] ss) (with_instruments m t ss [] is) b (in_turn link_edits 0 ss) es3
    (links_given m t ss is)
    (after-then (with_instruments m t ss [] is) (with_instruments m t ss is []) b (in_turn instrument_edits 0
    is) es4 (after_turns (with_instruments m t ss) instrument_edits (instrument_added_last m t ss) [] is)
    (after_turns (with_presets m t ss is) preset_edits (preset_added_last m t ss is) [] b.presets))))
