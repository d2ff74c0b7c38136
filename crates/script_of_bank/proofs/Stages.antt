-- The banks between the empty bank and the whole bank, and the edits that lead from one to the next.
use Rattle.std.proofs.Common.{◌≡◌, ◌++◌, ℕ, List, [], ◌∷◌, length, map, insert, slice_get, slice_set, Some, refl}
use Rattle.std.proofs.Common.{sym, subst, ◌∙◌, ap}
use Rattle.std.proofs.lemmas.List.{length-map, append_assoc, map_push}
use Rattle.std.proofs.lemmas.List.Edits.{insert_end}
use Rattle.base_numbered_lists.specs.declared.renumbering.Renumbering.{Renumbering}
use Rattle.base_numbered_lists.specs.declared.renumbering.Renumbering.TheVariants.{Insertion}
use Rattle.base_numbered_lists.specs.Moved.{changed}
use Rattle.bank_parts.specs.declared.texts.Texts.{Texts}
use Rattle.bank_parts.specs.declared.parts.Kind.{Kind}
use Rattle.bank_parts.specs.declared.parts.Kind.TheVariants.{Mono, Right, Left, Linked}
use Rattle.bank_parts.specs.declared.parts.Head.{Head}
use Rattle.bank_parts.specs.declared.parts.ZoneOwner.{ZoneOwner}
use Rattle.bank_parts.specs.declared.parts.Sample.{Sample}
use Rattle.bank_parts.specs.declared.parts.Parts.{Parts}
use Rattle.bank_parts.specs.Renumbered.{sample_renumbered}
use Rattle.bank_changes.specs.Points.{with_kind}
use Rattle.bank_edits.specs.Runs.{after_all}
use Rattle.script_of_bank.specs.BankEdits.{sample_edits, kind_edits, link_edits, instrument_edits, preset_edits}

abbrev pub bank_of : ℕ → Texts → List (ZoneOwner Head) → List (ZoneOwner (List ℕ)) → List Sample → Parts
bank_of minor texts presets instruments samples =
    record { minor = minor; texts = texts; presets = presets; instruments = instruments; samples = samples }

abbrev pub mono : Sample → Sample
mono s = with_kind Mono s

-- ---- lists

put_last : {X : Type 0} (f : X → X) (done : List X) (x : X)
    → insert (map f done) (length done) (f x) ≡ map f (done ++ x ∷ [])
put_last f done x =
    subst (λ (n : ℕ). insert (map f done) n (f x) ≡ map f done ++ f x ∷ []) (length-map done f)
    (insert_end (map f done) (f x))
    ∙ sym (map_push f done x)

pub reads_next : {X : Type 0} (done : List X) (x : X) (rest : List X)
    → slice_get (done ++ x ∷ rest) (length done) ≡ Some x
reads_next [] x rest = refl
reads_next (y ∷ done) x rest = reads_next done x rest

writes_next : {X : Type 0} (done : List X) (x y : X) (rest : List X)
    → slice_set (done ++ x ∷ rest) (length done) y ≡ done ++ y ∷ rest
writes_next [] x y rest = refl
writes_next (z ∷ done) x y rest = ap (λ l. z ∷ l) (writes_next done x y rest)

pub changes_next : {X : Type 0} (f : X → X) (done : List X) (x : X) (rest : List X)
    → changed (done ++ x ∷ rest) (length done) f ≡ done ++ f x ∷ rest
changes_next f done x rest = let e = reads_next done x rest in rw e (writes_next done x (f x) rest)

-- ---- samples without links: nothing in the bank names a sample yet

mono_kept : (by : Renumbering) (ss : List Sample) → map (sample_renumbered by) (map mono ss) ≡ map mono ss
mono_kept by [] = refl
mono_kept by (s ∷ ss) = ap (λ l. mono s ∷ l) (mono_kept by ss)

module _ (minor : ℕ) (texts : Texts) where
  abbrev pub with_samples : List Sample → List Sample → Parts
  with_samples done rest = bank_of minor texts [] [] (map mono done)

  pub sample_added_last : (done : List Sample) (s : Sample) (rest : List Sample)
      → after_all (with_samples done (s ∷ rest)) (sample_edits (length done) s) ≡ with_samples (done ++ s ∷ []) rest
  sample_added_last done s rest =
      ap (λ (ss : List Sample). bank_of minor texts [] [] (insert ss (length done) (mono s)))
      (mono_kept (Insertion (length done)) done)
      ∙ ap (λ (ss : List Sample). bank_of minor texts [] [] ss) (put_last mono done s)

  -- ---- the links

  abbrev pub with_links : List Sample → List Sample → Parts
  with_links done rest = bank_of minor texts [] [] (done ++ map mono rest)

  of_its_kind : (s : Sample) (kind : Kind) → s.kind ≡ kind → with_kind kind (mono s) ≡ s
  of_its_kind s kind e = λ i. record s { kind = sym e i }

  pub linked : (done : List Sample) (s : Sample) (rest : List Sample) (kind : Kind) → s.kind ≡ kind
      → changed (done ++ map mono (s ∷ rest)) (length done) (with_kind kind) ≡ (done ++ s ∷ []) ++ map mono rest
  linked done s rest kind e =
      changes_next (with_kind kind) done (mono s) (map mono rest)
      ∙
      (ap (λ (t : Sample). done ++ t ∷ map mono rest) (of_its_kind s kind e)
      ∙ sym (append_assoc done (s ∷ []) (map mono rest)))

  kind_set_next : (done : List Sample) (s : Sample) (rest : List Sample) (kind : Kind) → s.kind ≡ kind
      → after_all (with_links done (s ∷ rest)) (kind_edits (length done) kind) ≡ with_links (done ++ s ∷ []) rest
  kind_set_next done s rest Mono e =
      ap (λ (ss : List Sample). bank_of minor texts [] [] ss)
      (ap (λ (t : Sample). done ++ t ∷ map mono rest) (of_its_kind s Mono e)
      ∙ sym (append_assoc done (s ∷ []) (map mono rest)))
  kind_set_next done s rest (Right link) e =
      ap (λ (ss : List Sample). bank_of minor texts [] [] ss) (linked done s rest (Right link) e)
  kind_set_next done s rest (Left link) e =
      ap (λ (ss : List Sample). bank_of minor texts [] [] ss) (linked done s rest (Left link) e)
  kind_set_next done s rest (Linked link) e =
      ap (λ (ss : List Sample). bank_of minor texts [] [] ss) (linked done s rest (Linked link) e)

  pub link_set_next : (done : List Sample) (s : Sample) (rest : List Sample)
      → after_all (with_links done (s ∷ rest)) (link_edits (length done) s) ≡ with_links (done ++ s ∷ []) rest
  link_set_next done s rest = kind_set_next done s rest s.kind refl

-- ---- instruments, while there are no presets, and presets

module _ (minor : ℕ) (texts : Texts) (samples : List Sample) where
  abbrev pub with_instruments : List (ZoneOwner (List ℕ)) → List (ZoneOwner (List ℕ)) → Parts
  with_instruments done rest = bank_of minor texts [] done samples

  pub instrument_added_last : (done : List (ZoneOwner (List ℕ))) (x : ZoneOwner (List ℕ))
      (rest : List (ZoneOwner (List ℕ)))
      → after_all (with_instruments done (x ∷ rest)) (instrument_edits (length done) x)
      ≡ with_instruments (done ++ x ∷ []) rest
  instrument_added_last done x rest =
      ap (λ (xs : List (ZoneOwner (List ℕ))). bank_of minor texts [] xs samples) (insert_end done x)

  module _ (instruments : List (ZoneOwner (List ℕ))) where
    abbrev pub with_presets : List (ZoneOwner Head) → List (ZoneOwner Head) → Parts
    with_presets done rest = bank_of minor texts done instruments samples

    pub preset_added_last : (done : List (ZoneOwner Head)) (x : ZoneOwner Head) (rest : List (ZoneOwner Head))
        → after_all (with_presets done (x ∷ rest)) (preset_edits (length done) x) ≡ with_presets (done ++ x ∷ []) rest
    preset_added_last done x rest =
        ap (λ (xs : List (ZoneOwner Head)). bank_of minor texts xs instruments samples) (insert_end done x)
