-- The raw changes of instruments: each keeps a bank sound, and can be undone.
use Rattle.std.proofs.Common.{◌≡◌, ◌<◌, ◌≤◌, ◌==◌, ℕ, false, List, length, insert, remove, slice_get, Some, None}
use Rattle.std.proofs.Common.{sym, ◌∙◌, ap, arith}
use Rattle.std.specs.List.{AllByRecursion}
use Rattle.std.proofs.lemmas.List.Edits.{length-insert, length-remove}
use Rattle.sf_base.specs.Names.{IsName}
use Rattle.base_numbered_lists.specs.declared.renumbering.Renumbering.{Renumbering}
use Rattle.base_numbered_lists.specs.declared.renumbering.Renumbering.TheVariants.{Insertion, Removal, Move}
use Rattle.base_numbered_lists.specs.Renumbered.{renumbered}
use Rattle.base_numbered_lists.specs.Moved.{moved}
use Rattle.base_numbered_lists.proofs.Lists.{slice_get-found, length-changed, length-moved, moved-back, insert-remove}
use Rattle.base_numbered_lists.proofs.Lists.{remove-insert}
use Rattle.base_numbered_lists.proofs.Numbers.{insertion_returned, removal_returned_by_test, insertion_below}
use Rattle.base_numbered_lists.proofs.Numbers.{removal_below_by_test, insertion_keeps, insertion_misses_by_test}
use Rattle.base_numbered_lists.proofs.Numbers.{move_below, move_returned}
use Rattle.generators.specs.declared.level.Level.TheVariants as level
use Rattle.bank_validity.specs.declared.totals.Totals.{Totals}
use Rattle.bank_parts.specs.declared.parts.Head.{Head}
use Rattle.bank_parts.specs.declared.parts.ZoneOwner.{ZoneOwner}
use Rattle.bank_parts.specs.declared.parts.Parts.{Parts}
use Rattle.bank_parts.specs.Counts.{records_of_owner}
use Rattle.bank_parts.specs.Owners.{with_head}
use Rattle.bank_parts.specs.Renumbered.{instruments_renumbered}
use Rattle.bank_parts.specs.Valid.{IsInstrument, IsValid}
use Rattle.bank_parts.specs.Fits.{FitsHead, FitsOwner}
use Rattle.bank_parts.specs.Sound.{IsSound}
use Rattle.bank_validity.specs.Limits.{totals_of, broken, broken_limit, with_owner}
use Rattle.bank_validity.proofs.LimitLaws.{limits_of, no_limit_of}
use Rattle.bank_changes.specs.Instruments.{instrument_renamed, instrument_added, instrument_removed}
use Rattle.bank_changes.specs.Instruments.{instrument_moved, instrument_in_use}
use Rattle.bank_changes.proofs.Changes.{all_changed}
use Rattle.bank_changes.proofs.Everywhere.{all_insert, all_remove}
use Rattle.bank_changes.proofs.Moves.{all_moved}
use Rattle.bank_changes.proofs.OwnerReferences.{OfOwners, owners_always, owners_weaker, owners_both, owners_sent}
use Rattle.bank_changes.proofs.OwnerReferences.{owners_within, owners_valid, owners_fit, owners_kept, owners_back}
use Rattle.bank_changes.proofs.OwnerReferences.{removal_keeps, untargeted, not_targeted}
use Rattle.bank_changes.proofs.TotalsLaws.{totals-instruments_renumbered, level_inserted, level_removed, level_moved}
use Rattle.bank_changes.proofs.TotalsLaws.{level_headed, fewer_owners_within}

-- ---- renaming

module _ (b : Parts) (number : ℕ) (name : List ℕ) where
  pub totals-instrument_renamed : totals_of (instrument_renamed b number name) ≡ totals_of b
  unfolding totals_of
  totals-instrument_renamed =
      λ k. record (totals_of b) { instruments = level_headed b.instruments number (λ _. name) k }

  pub instrument_renamed_sound : IsSound b → IsName name → IsSound (instrument_renamed b number name)
  instrument_renamed_sound sound h =
      let v = sound.valid in
      let f = sound.fits in
      record {
        valid = record {
          texts = v.texts;
          presets = rw (length-changed b.instruments number (with_head name)) v.presets;
          instruments =
              all_changed (with_head name) (IsInstrument (length b.samples))
              (λ x is. record { name = h; zones = is.zones }) b.instruments number v.instruments;
          samples = v.samples;
          limits =
              limits_of (instrument_renamed b number name)
              (ap broken totals-instrument_renamed ∙ no_limit_of b v.limits);
        };
        fits = record {
          minor = f.minor;
          texts = f.texts;
          presets = f.presets;
          instruments =
              all_changed (with_head name) (FitsOwner IsName)
              (λ x fits. record { head = h; global = fits.global; zones = fits.zones }) b.instruments number
              f.instruments;
          samples = f.samples;
        };
      }

-- ---- another list of instruments, and renumbered targets

-- P holds of the old targets, and implies that the new ones are in range
module _ (b : Parts) (sound : IsSound b) (P : ℕ → Type 0) (by : Renumbering)
    (instruments : List (ZoneOwner (List ℕ))) (to : (x : ℕ) → P x → renumbered by x < length instruments) where
  pub instruments_sound : OfOwners P b.presets → AllByRecursion (IsInstrument (length b.samples)) instruments
      → AllByRecursion (FitsOwner IsName) instruments
      → broken_limit (instruments_renumbered by (record b { instruments = instruments })) ≡ None
      → IsSound (instruments_renumbered by (record b { instruments = instruments }))
  instruments_sound refs are fit e =
      let now : Parts = instruments_renumbered by (record b { instruments = instruments }) in
      let v = sound.valid in
      let f = sound.fits in
      let limits = limits_of now e in
      let few = limits.instruments in
      record {
        valid = record {
          texts = v.texts;
          presets =
              owners_valid (λ (h : Head). h.name) level.Preset (length b.instruments) P by (length instruments) to
              b.presets v.presets refs;
          instruments = are;
          samples = v.samples;
          limits = limits;
        };
        fits = record {
          minor = f.minor;
          texts = f.texts;
          presets =
              owners_fit FitsHead P by (λ x h. let below = to x h in omega (arith, below, few)) b.presets f.presets
              refs;
          instruments = fit;
          samples = f.samples;
        };
      }

targets_within : (b : Parts) → IsValid b → OfOwners (λ x. x < length b.instruments) b.presets
targets_within b v = owners_within (λ (h : Head). h.name) level.Preset (length b.instruments) b.presets v.presets

-- ---- adding

module _ (b : Parts) (i : ℕ) (x : ZoneOwner (List ℕ)) where
  pub totals-added_instrument : i ≤ length b.instruments
      → totals_of (instrument_added b i x) ≡ with_owner level.Inst (totals_of b) (records_of_owner x)
  unfolding totals_of
  totals-added_instrument le =
      totals-instruments_renumbered (Insertion i) (record b { instruments = insert b.instruments i x })
      ∙ (λ k. record (totals_of b) { instruments = level_inserted b.instruments i x le k })

  pub sound_added_instrument : IsSound b → i ≤ length b.instruments → IsInstrument (length b.samples) x
      → FitsOwner IsName x → broken_limit (instrument_added b i x) ≡ None → IsSound (instrument_added b i x)
  sound_added_instrument sound le is fits e =
      let n : ℕ = length b.instruments in
      let more = length-insert b.instruments i x le in
      instruments_sound b sound (λ t. t < n) (Insertion i) (insert b.instruments i x)
      (λ t h. let below = insertion_below i t n h in omega (arith, below, more)) (targets_within b sound.valid)
      (all_insert (IsInstrument (length b.samples)) b.instruments i x is sound.valid.instruments)
      (all_insert (FitsOwner IsName) b.instruments i x fits sound.fits.instruments) e

  pub restored_added_instrument : i ≤ length b.instruments → instrument_removed (instrument_added b i x) i ≡ b
  restored_added_instrument le =
      let targets =
      owners_back (Insertion i) (Removal i) b.presets
      (owners_always (λ t. renumbered (Removal i) (renumbered (Insertion i) t) ≡ t)
      (λ t. insertion_returned i t) b.presets)
      in
      let instruments = remove-insert b.instruments i x le in
      λ k. record b { presets = targets k; instruments = instruments k }

  -- no zone targets the new instrument
  pub added_instrument_unused : instrument_in_use (instrument_added b i x) i ≡ false
  unfolding instrument_in_use
  added_instrument_unused = not_targeted i (instrument_added b i x).presets
      (owners_sent (λ t. Unit {0}) (λ t. (t == i) ≡ false) (Insertion i) (λ t u. insertion_misses_by_test i t)
      b.presets (owners_always (λ t. Unit {0}) (λ t. tt) b.presets))

  -- an append renumbers nothing
  pub added_last_instrument : IsValid b → length b.instruments ≤ i
      → (let t : Parts = record b { instruments = insert b.instruments i x } in t) ≡ instrument_added b i x
  added_last_instrument v last =
      let kept =
      owners_kept (Insertion i) b.presets
      (owners_weaker (λ t. t < length b.instruments) (λ t. renumbered (Insertion i) t ≡ t)
      (λ t h. insertion_keeps i t (omega (arith, h, last))) b.presets (targets_within b v))
      in
      λ k. record b { presets = sym kept k; instruments = insert b.instruments i x }

-- ---- removing

module _ (b : Parts) (i : ℕ) where
  -- no zone targets an instrument that is not in use
  pub unused_instrument : instrument_in_use b i ≡ false → OfOwners (λ t. (t == i) ≡ false) b.presets
  unfolding instrument_in_use
  unused_instrument free = untargeted i b.presets free

  totals-removed_from_list : (x : ZoneOwner (List ℕ)) → slice_get b.instruments i ≡ Some x
      → with_owner level.Inst (totals_of (record b { instruments = remove b.instruments i }))
      (records_of_owner x)
      ≡ totals_of b
  unfolding totals_of
  totals-removed_from_list x e = λ k. record (totals_of b) { instruments = level_removed b.instruments i x e k }

  pub totals-removed_instrument : (x : ZoneOwner (List ℕ)) → slice_get b.instruments i ≡ Some x
      → with_owner level.Inst (totals_of (instrument_removed b i)) (records_of_owner x) ≡ totals_of b
  totals-removed_instrument x e =
      let kept = totals-instruments_renumbered (Removal i) (record b { instruments = remove b.instruments i }) in
      ap (λ (t : Totals). with_owner level.Inst t (records_of_owner x)) kept ∙ totals-removed_from_list x e

  pub sound_removed_instrument : IsSound b → i < length b.instruments → instrument_in_use b i ≡ false
      → IsSound (instrument_removed b i)
  sound_removed_instrument sound lt free =
      let n : ℕ = length b.instruments in
      let less = length-remove b.instruments i lt in
      let (x, e) = slice_get-found b.instruments i lt in
      instruments_sound b sound (λ t. ((t == i) ≡ false) × (t < n)) (Removal i) (remove b.instruments i)
      (λ t h. let below =
      h.1 in removal_below_by_test i t (length (remove b.instruments i)) h.0 (omega (arith, less, lt))
      (omega (arith, less, below)))
      (owners_both (λ t. (t == i) ≡ false) (λ t. t < n) b.presets (unused_instrument free)
      (targets_within b sound.valid))
      (all_remove (IsInstrument (length b.samples)) b.instruments i sound.valid.instruments)
      (all_remove (FitsOwner IsName) b.instruments i sound.fits.instruments)
      (fewer_owners_within level.Inst (totals_of (instrument_removed b i)) (records_of_owner x)
      (ap broken (totals-removed_instrument x e) ∙ no_limit_of b sound.valid.limits))

  pub restored_removed_instrument : (x : ZoneOwner (List ℕ)) → slice_get b.instruments i ≡ Some x
      → instrument_in_use b i ≡ false → instrument_added (instrument_removed b i) i x ≡ b
  restored_removed_instrument x e free =
      let Returns : ℕ → Type 0 = λ t. renumbered (Insertion i) (renumbered (Removal i) t) ≡ t in
      let targets =
      owners_back (Removal i) (Insertion i) b.presets
      (owners_weaker (λ t. (t == i) ≡ false) Returns (λ t h. removal_returned_by_test i t h) b.presets
      (unused_instrument free))
      in
      let instruments = insert-remove b.instruments i x e in
      λ k. record b { presets = targets k; instruments = instruments k }

  -- removal of the last one renumbers nothing
  pub removed_last_instrument : IsValid b → i < length b.instruments → length (remove b.instruments i) ≤ i
      → (let t : Parts = record b { instruments = remove b.instruments i } in t) ≡ instrument_removed b i
  removed_last_instrument v lt last =
      let less = length-remove b.instruments i lt in
      let kept =
      owners_kept (Removal i) b.presets
      (owners_weaker (λ t. t < length b.instruments) (λ t. renumbered (Removal i) t ≡ t)
      (λ t h. removal_keeps i t (omega (arith, less, last, h))) b.presets (targets_within b v))
      in
      λ k. record b { presets = sym kept k; instruments = remove b.instruments i }

-- ---- moving

module _ (b : Parts) (i j : ℕ) (lt : i < length b.instruments) (lu : j < length b.instruments) where
  pub length-instrument_moved : length (instrument_moved b i j).instruments ≡ length b.instruments
  length-instrument_moved = length-moved b.instruments i j lt lu

  pub totals-instrument_moved : totals_of (instrument_moved b i j) ≡ totals_of b
  unfolding totals_of
  totals-instrument_moved =
      totals-instruments_renumbered (Move i j) (record b { instruments = moved b.instruments i j })
      ∙ (λ k. record (totals_of b) { instruments = level_moved b.instruments i j lt lu k })

  pub instrument_moved_sound : IsSound b → IsSound (instrument_moved b i j)
  instrument_moved_sound sound =
      let n : ℕ = length b.instruments in
      instruments_sound b sound (λ x. x < n) (Move i j) (moved b.instruments i j)
      (λ x h. let below = move_below i j x n lt lu h in omega (arith, below, length-instrument_moved))
      (targets_within b sound.valid)
      (all_moved (IsInstrument (length b.samples)) b.instruments i j lt sound.valid.instruments)
      (all_moved (FitsOwner IsName) b.instruments i j lt sound.fits.instruments)
      (ap broken totals-instrument_moved ∙ no_limit_of b sound.valid.limits)

  pub restored_instrument_moved : instrument_moved (instrument_moved b i j) j i ≡ b
  restored_instrument_moved =
      let targets =
      owners_back (Move i j) (Move j i) b.presets
      (owners_always (λ x. renumbered (Move j i) (renumbered (Move i j) x) ≡ x) (λ x. move_returned i j x)
      b.presets)
      in
      let instruments = moved-back b.instruments i j lt lu in
      λ k. record b { presets = targets k; instruments = instruments k }
