-- Each of the edits that list a sound bank is accepted in order.
use Rattle.std.proofs.Common.{◌≡◌, ◌++◌, ℕ, List, [], ◌∷◌, length, map, refl, sym, subst, ◌∙◌, ap, arith}
use Rattle.std.specs.Option.{option_map}
use Rattle.std.proofs.lemmas.List.{append-nil, append_assoc, length-map}
use Rattle.sf_base.specs.Names.{IsName}
use Rattle.generators.specs.declared.level.Level.TheVariants as level
use Rattle.bank_parts.specs.declared.texts.Texts.{Texts}
use Rattle.bank_parts.specs.declared.texts.InfoId.{InfoId}
use Rattle.bank_parts.specs.declared.texts.InfoId.TheVariants.{Engine, Name, Date, Engineers, Product, Copyright}
use Rattle.bank_parts.specs.declared.texts.InfoId.TheVariants.{Comment, Software}
use Rattle.bank_parts.specs.declared.parts.Kind.{Kind}
use Rattle.bank_parts.specs.declared.parts.Kind.TheVariants.{Mono, Right, Left, Linked}
use Rattle.bank_parts.specs.declared.parts.Head.{Head}
use Rattle.bank_parts.specs.declared.parts.ZoneOwner.{ZoneOwner}
use Rattle.bank_parts.specs.declared.parts.Sample.{Sample}
use Rattle.bank_parts.specs.declared.parts.Parts.{Parts}
use Rattle.bank_parts.specs.Valid.{AreTexts, IsSample, IsLink, IsPreset, IsInstrument}
use Rattle.bank_parts.specs.Fits.{FitTexts, FitsSample, FitsKind, FitsOwner, FitsHead}
use Rattle.bank_parts.specs.Sound.{IsSound}
use Rattle.bank_changes.specs.Texts.{info_set}
use Rattle.bank_changes.proofs.TextLaws.{IsInfo, info_of, info_sound, text_fits}
use Rattle.edit_forms.specs.declared.step.Step.{Step}
use Rattle.edit_forms.specs.declared.presets.PresetStep.TheVariants.{AddPreset}
use Rattle.edit_forms.specs.declared.instruments.InstrumentStep.TheVariants.{AddInstrument}
use Rattle.edit_forms.specs.declared.samples.SampleStep.TheVariants.{AddSample}
use Rattle.edit_forms.specs.declared.points.PointStep.TheVariants.{SetKind}
use Rattle.edit_forms.specs.declared.texts.TextStep.TheVariants.{SetInfo}
use Rattle.edit_forms.specs.declared.step.Step.TheVariants as steps
use Rattle.edit_forms.specs.declared.edit.Edit.{Edit}
use Rattle.edit_forms.specs.declared.edit.Edit.TheVariants.{One}
use Rattle.edit_forms.specs.Fits.{FitsStep}
use Rattle.edit_forms.specs.declared.cause.Cause.TheVariants.{NoSuchInstrument, NoSuchSample}
use Rattle.edit_refusals.specs.declared.refusal.Refusal.TheVariants.{Of}
use Rattle.edit_forms.specs.Steps as table
use Rattle.edit_refusals.proofs.Accepted.{NoneApplies, accepted_by}
use Rattle.edit_refusals.proofs.TextLaws.{not_bad}
use Rattle.edit_refusals.proofs.SampleLaws as sample
use Rattle.edit_refusals.proofs.PointLaws as point
use Rattle.edit_refusals.proofs.OwnerLaws as owner
use Rattle.bank_edits.specs.Runs.{AllAccepted}
use Rattle.bank_edits.specs.Undone.{IsAccepted}
use Rattle.script_of_bank.specs.BankEdits.{empty, empty_texts, in_turn, text_edits, texts_edits, sample_edits, kind_edits}
use Rattle.script_of_bank.specs.BankEdits.{link_edits, instrument_edits, preset_edits, edits_of_bank}
use Rattle.script_of_bank.proofs.SequenceLaws.{is_accepted-then, after_turns, accepted_turns}
use Rattle.script_of_bank.proofs.PrefixLaws.{all_front, all_rest, length_front}
use Rattle.script_of_bank.proofs.Stages.{bank_of, mono, with_samples, with_links, with_instruments, with_presets, linked}
use Rattle.script_of_bank.proofs.Stages.{sample_added_last, link_set_next, instrument_added_last, preset_added_last}
use Rattle.script_of_bank.proofs.StageSound.{AreGood, all_good, unlinked_good, half_good, half_length, mono_fits}
use Rattle.script_of_bank.proofs.StageSound.{stage_sound}
use Rattle.script_of_bank.proofs.ResultLaws.{with_texts, texts0, texts1, texts2, texts3, texts4, texts5, texts6, texts7}
use Rattle.script_of_bank.proofs.ResultLaws.{given0, given1, given2, given3, given4, given5, given6, edits1, edits2, edits3}
use Rattle.script_of_bank.proofs.ResultLaws.{edits4, edits5, edits6, edits7, texts_given, links_given}

-- a step is accepted if it has no cause of refusal and leads to a sound bank
one_accepted : (b c : Parts) (s : Step) → FitsStep s → NoneApplies (table.causes b s) → table.raw b s ≡ c → IsSound c
    → IsAccepted b (One s)
one_accepted b c s fits tests to sound =
    record { fits = fits; accepted = ap (option_map Of) (accepted_by b s tests (subst IsSound (sym to) sound)) }

-- ---- texts

text_accepted : (b : Parts) (id : InfoId) (text : List ℕ) → IsSound b → IsInfo id text → AllAccepted b (text_edits id text)
text_accepted b id [] s h = tt
text_accepted b id (byte ∷ text) s h = (
  one_accepted b (info_set b id (byte ∷ text)) (steps.Text (SetInfo id (byte ∷ text)))
      (text_fits (byte ∷ text) h.fits) (not_bad id (byte ∷ text) h, tt) refl (info_sound b id (byte ∷ text) s h),
  tt,
)

pub empty_are : AreTexts empty_texts
empty_are = record {
  engine = (
    omega arith,
    (
      (omega arith, omega arith),
      (
        (omega arith, omega arith),
        (
          (omega arith, omega arith),
          (
            (omega arith, omega arith),
            ((omega arith, omega arith), ((omega arith, omega arith), ((omega arith, omega arith), tt))),
          ),
        ),
      ),
    ),
  );
  engine_there = omega arith;
  name = (omega arith, tt);
  date = (omega arith, tt);
  engineers = (omega arith, tt);
  product = (omega arith, tt);
  copyright = (omega arith, tt);
  comment = (omega arith, tt);
  software = (omega arith, tt);
}

pub empty_fit : FitTexts empty_texts
empty_fit = record {
  engine = text_fits empty_texts.engine empty_are.engine;
  name = tt;
  date = tt;
  engineers = tt;
  product = tt;
  copyright = tt;
  comment = tt;
  software = tt;
}

no_samples_good : AreGood []
no_samples_good = record { few = omega arith; points = omega arith; are = tt; fit = tt }

module _ (b : Parts) (s : IsSound b) where
  abbrev m : ℕ
  m = b.minor

  abbrev t : Texts
  t = b.texts

  pub sound0 : IsSound (with_texts m t empty_texts)
  sound0 =
      stage_sound b s empty_texts empty_are empty_fit [] b.presets refl [] b.instruments refl [] no_samples_good tt
      tt

  pub sound_empty : IsSound (empty b.minor)
  sound_empty = sound0

  sound1 : IsSound (with_texts m t (texts1 m t))
  sound1 = info_sound (with_texts m t (texts0 m t)) Engine t.engine sound0 (info_of t Engine s.valid.texts)

  sound2 : IsSound (with_texts m t (texts2 m t))
  sound2 = info_sound (with_texts m t (texts1 m t)) Name t.name sound1 (info_of t Name s.valid.texts)

  sound3 : IsSound (with_texts m t (texts3 m t))
  sound3 = info_sound (with_texts m t (texts2 m t)) Date t.date sound2 (info_of t Date s.valid.texts)

  sound4 : IsSound (with_texts m t (texts4 m t))
  sound4 = info_sound (with_texts m t (texts3 m t)) Engineers t.engineers sound3 (info_of t Engineers s.valid.texts)

  sound5 : IsSound (with_texts m t (texts5 m t))
  sound5 = info_sound (with_texts m t (texts4 m t)) Product t.product sound4 (info_of t Product s.valid.texts)

  sound6 : IsSound (with_texts m t (texts6 m t))
  sound6 = info_sound (with_texts m t (texts5 m t)) Copyright t.copyright sound5 (info_of t Copyright s.valid.texts)

  sound7 : IsSound (with_texts m t (texts7 m t))
  sound7 = info_sound (with_texts m t (texts6 m t)) Comment t.comment sound6 (info_of t Comment s.valid.texts)

  texts_accepted : AllAccepted (empty m) (texts_edits t)
  texts_accepted =
      is_accepted-then (with_texts m t (texts0 m t)) (with_texts m t (texts1 m t)) (text_edits Engine t.engine)
      (edits1 m t) (given0 m t s.valid.texts.engine_there)
      (text_accepted (with_texts m t (texts0 m t)) Engine t.engine sound0 (info_of t Engine s.valid.texts)) (
      is_accepted-then (with_texts m t (texts1 m t)) (with_texts m t (texts2 m t)) (text_edits Name t.name) (edits2 m t)
      (given1 m t) (text_accepted (with_texts m t (texts1 m t)) Name t.name sound1 (info_of t Name s.valid.texts)) (
      is_accepted-then (with_texts m t (texts2 m t)) (with_texts m t (texts3 m t)) (text_edits Date t.date) (edits3 m t)
      (given2 m t) (text_accepted (with_texts m t (texts2 m t)) Date t.date sound2 (info_of t Date s.valid.texts)) (
      is_accepted-then (with_texts m t (texts3 m t)) (with_texts m t (texts4 m t)) (text_edits Engineers t.engineers)
      (edits4 m t) (given3 m t)
      (text_accepted (with_texts m t (texts3 m t)) Engineers t.engineers sound3 (info_of t Engineers s.valid.texts))
      (
      is_accepted-then (with_texts m t (texts4 m t)) (with_texts m t (texts5 m t)) (text_edits Product t.product)
      (edits5 m t) (given4 m t)
      (text_accepted (with_texts m t (texts4 m t)) Product t.product sound4 (info_of t Product s.valid.texts)) (
      is_accepted-then (with_texts m t (texts5 m t)) (with_texts m t (texts6 m t)) (text_edits Copyright t.copyright)
      (edits6 m t) (given5 m t)
      (text_accepted (with_texts m t (texts5 m t)) Copyright t.copyright sound5 (info_of t Copyright s.valid.texts))
      (
      is_accepted-then (with_texts m t (texts6 m t)) (with_texts m t (texts7 m t)) (text_edits Comment t.comment)
      (edits7 m t) (given6 m t)
      (text_accepted (with_texts m t (texts6 m t)) Comment t.comment sound6 (info_of t Comment s.valid.texts)) (
      text_accepted (with_texts m t (texts7 m t)) Software t.software sound7 (info_of t Software s.valid.texts))))))))

  -- ---- samples, without their links and with them

  pub unlinked_sound : (done rest : List Sample) → done ++ rest ≡ b.samples → IsSound (with_samples m t done rest)
  unlinked_sound done rest e =
      stage_sound b s t s.valid.texts s.fits.texts [] b.presets refl [] b.instruments refl (map mono done)
      (unlinked_good done rest b.samples e (all_good b s)) tt tt

  pub half_sound : (done rest : List Sample) → done ++ rest ≡ b.samples → IsSound (with_links m t done rest)
  half_sound done rest e =
      stage_sound b s t s.valid.texts s.fits.texts [] b.presets refl [] b.instruments refl (done ++ map mono rest)
      (half_good done rest b.samples e (all_good b s)) tt tt

  sample_accepted : (done : List Sample) (x : Sample) (rest : List Sample) → done ++ x ∷ rest ≡ b.samples
      → AllAccepted (with_samples m t done (x ∷ rest)) (sample_edits (length done) x)
  sample_accepted done x rest e =
      let here = with_samples m t done (x ∷ rest) in
      let n = length_front done (x ∷ rest) b.samples e in
      let few = s.valid.limits.samples in
      let same = length-map done mono in
      let is = (all_rest done (x ∷ rest) b.samples e (IsSample (length b.samples)) s.valid.samples).0 in
      let fit = (all_rest done (x ∷ rest) b.samples e FitsSample s.fits.samples).0 in (
        one_accepted here (with_samples m t (done ++ x ∷ []) rest) (steps.Sample (AddSample (length done) (mono x)))
            (omega (arith, n, few), mono_fits x fit)
            (sample.tests_add here (length done) (mono x)
            (record { link = tt; place = omega (arith, same); looped = is.looped }))
            (sample_added_last m t done x rest)
            (unlinked_sound (done ++ x ∷ []) rest (append_assoc done (x ∷ []) rest ∙ e)),
        tt,
      )

  kind_accepted : (done : List Sample) (x : Sample) (rest : List Sample) (kind : Kind) → x.kind ≡ kind
      → done ++ x ∷ rest ≡ b.samples
      → IsAccepted (with_links m t done (x ∷ rest)) (One (steps.Points (length done) (SetKind kind)))
  kind_accepted done x rest kind k e =
      let here = with_links m t done (x ∷ rest) in
      let n = length_front done (x ∷ rest) b.samples e in
      let few = s.valid.limits.samples in
      let size = half_length done (x ∷ rest) b.samples e (all_good b s) in
      let is = (all_rest done (x ∷ rest) b.samples e (IsSample (length b.samples)) s.valid.samples).0 in
      let fit = (all_rest done (x ∷ rest) b.samples e FitsSample s.fits.samples).0 in
      one_accepted here (with_links m t (done ++ x ∷ []) rest) (steps.Points (length done) (SetKind kind))
      (omega (arith, n, few), subst FitsKind k fit.kind)
      (point.tests_kind here (length done) kind
      (record {
        there =
            omega (arith, size, n);
        link =
            subst (λ (c : ℕ). IsLink c kind) (sym size) (subst (IsLink (length b.samples)) k is.kind);
      }))
      (ap (λ (ss : List Sample). bank_of m t [] [] ss) (linked m t done x rest kind k))
      (half_sound (done ++ x ∷ []) rest (append_assoc done (x ∷ []) rest ∙ e))

  kinds_accepted : (done : List Sample) (x : Sample) (rest : List Sample) (kind : Kind) → x.kind ≡ kind
      → done ++ x ∷ rest ≡ b.samples → AllAccepted (with_links m t done (x ∷ rest)) (kind_edits (length done) kind)
  kinds_accepted done x rest Mono k e = tt
  kinds_accepted done x rest (Right link) k e = (kind_accepted done x rest (Right link) k e, tt)
  kinds_accepted done x rest (Left link) k e = (kind_accepted done x rest (Left link) k e, tt)
  kinds_accepted done x rest (Linked link) k e = (kind_accepted done x rest (Linked link) k e, tt)

  -- ---- instruments and presets

  pub instruments_sound : (done rest : List (ZoneOwner (List ℕ))) → done ++ rest ≡ b.instruments
      → IsSound (with_instruments m t b.samples done rest)
  instruments_sound done rest e =
      stage_sound b s t s.valid.texts s.fits.texts [] b.presets refl done rest e b.samples (all_good b s) tt
      (all_front done rest b.instruments e (IsInstrument (length b.samples)) s.valid.instruments)

  pub presets_sound : (done rest : List (ZoneOwner Head)) → done ++ rest ≡ b.presets
      → IsSound (with_presets m t b.samples b.instruments done rest)
  presets_sound done rest e =
      stage_sound b s t s.valid.texts s.fits.texts done rest e b.instruments [] (append-nil b.instruments) b.samples
      (all_good b s)
      (all_front done rest b.presets e (IsPreset (length b.instruments)) s.valid.presets) s.valid.instruments

  instrument_accepted : (done : List (ZoneOwner (List ℕ))) (x : ZoneOwner (List ℕ)) (rest : List (ZoneOwner (List ℕ)))
      → done ++ x ∷ rest ≡ b.instruments
      → AllAccepted (with_instruments m t b.samples done (x ∷ rest)) (instrument_edits (length done) x)
  instrument_accepted done x rest e =
      let here = with_instruments m t b.samples done (x ∷ rest) in
      let n = length_front done (x ∷ rest) b.instruments e in
      let few = s.valid.limits.instruments in
      let is = (all_rest done (x ∷ rest) b.instruments e (IsInstrument (length b.samples)) s.valid.instruments).0 in
      let fit = (all_rest done (x ∷ rest) b.instruments e (FitsOwner IsName) s.fits.instruments).0 in (
        one_accepted here (with_instruments m t b.samples (done ++ x ∷ []) rest)
            (steps.Instrument (AddInstrument (length done) x))
            (omega (arith, n, few), fit)
            (owner.tests_add (λ name. name) level.Inst (length b.samples) (length done) (length done) x
            NoSuchSample (record { place = omega arith; is = is }))
            (instrument_added_last m t b.samples done x rest)
            (instruments_sound (done ++ x ∷ []) rest (append_assoc done (x ∷ []) rest ∙ e)),
        tt,
      )

  preset_accepted : (done : List (ZoneOwner Head)) (x : ZoneOwner Head) (rest : List (ZoneOwner Head))
      → done ++ x ∷ rest ≡ b.presets
      → AllAccepted (with_presets m t b.samples b.instruments done (x ∷ rest)) (preset_edits (length done) x)
  preset_accepted done x rest e =
      let here = with_presets m t b.samples b.instruments done (x ∷ rest) in
      let n = length_front done (x ∷ rest) b.presets e in
      let few = s.valid.limits.presets in
      let is = (all_rest done (x ∷ rest) b.presets e (IsPreset (length b.instruments)) s.valid.presets).0 in
      let fit = (all_rest done (x ∷ rest) b.presets e (FitsOwner FitsHead) s.fits.presets).0 in (
        one_accepted here (with_presets m t b.samples b.instruments (done ++ x ∷ []) rest)
            (steps.Preset (AddPreset (length done) x))
            (omega (arith, n, few), fit)
            (owner.tests_add (λ (h : Head). h.name) level.Preset (length b.instruments) (length done) (length done) x
            NoSuchInstrument (record { place = omega arith; is = is }))
            (preset_added_last m t b.samples b.instruments done x rest)
            (presets_sound (done ++ x ∷ []) rest (append_assoc done (x ∷ []) rest ∙ e)),
        tt,
      )

  -- ---- the bank

  pub all_accepted : AllAccepted (empty b.minor) (edits_of_bank b)
  all_accepted =
      let ss = b.samples in
      let is = b.instruments in
      let es4 : List Edit = in_turn preset_edits 0 b.presets in
      let es3 : List Edit = in_turn instrument_edits 0 is ++ es4 in
      let es2 : List Edit = in_turn link_edits 0 ss ++ es3 in
      let es1 : List Edit = in_turn sample_edits 0 ss ++ es2 in
      is_accepted-then (empty m) (with_texts m t t) (texts_edits t) es1 (texts_given m t s.valid.texts.engine_there)
      texts_accepted
      (is_accepted-then (with_samples m t [] ss) (with_samples m t ss []) (in_turn sample_edits 0 ss) es2
      (after_turns (with_samples m t) sample_edits (sample_added_last m t) [] ss)
      (accepted_turns (with_samples m t) sample_edits (sample_added_last m t) ss sample_accepted [] ss refl)
      (is_accepted-then (with_links m t [] ss) (with_instruments m t ss [] is) (in_turn link_edits 0 ss) es3
      (links_given m t ss is)
      (accepted_turns (with_links m t) link_edits (link_set_next m t) ss
      (λ done x rest e. kinds_accepted done x rest x.kind refl e) [] ss refl)
      (is_accepted-then (with_instruments m t ss [] is) (with_instruments m t ss is []) (in_turn instrument_edits 0 is) es4
      (after_turns (with_instruments m t ss) instrument_edits (instrument_added_last m t ss) [] is)
      (accepted_turns (with_instruments m t ss) instrument_edits (instrument_added_last m t ss) is instrument_accepted []
      is refl)
      (accepted_turns (with_presets m t ss is) preset_edits (preset_added_last m t ss is) b.presets preset_accepted []
      b.presets refl))))
