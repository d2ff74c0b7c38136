-- The raw changes of presets: each keeps a bank sound, and can be undone.
use Rattle.std.proofs.Common.{◌≡◌, ◌<◌, ◌≤◌, ◌^◌, ℕ, List, length, insert, remove, slice_get, slice_set, Some, None}
use Rattle.std.proofs.Common.{refl, sym, ◌∙◌, ap}
use Rattle.std.specs.List.{AllByRecursion}
use Rattle.std.specs.Option.{option_map}
use Rattle.sf_base.specs.Names.{IsName}
use Rattle.base_numbered_lists.specs.Moved.{changed}
use Rattle.base_numbered_lists.proofs.Lists.{slice_get-found, length-changed, changed-found, changed-back}
use Rattle.base_numbered_lists.proofs.Lists.{slice_get-changed, length-moved, moved-back, insert-remove, remove-insert}
use Rattle.generators.specs.declared.level.Level.TheVariants as level
use Rattle.bank_parts.specs.declared.parts.Head.{Head}
use Rattle.bank_parts.specs.declared.parts.ZoneOwner.{ZoneOwner}
use Rattle.bank_parts.specs.declared.parts.Parts.{Parts}
use Rattle.bank_parts.specs.Counts.{records_of_owner}
use Rattle.bank_parts.specs.Owners.{head_at, with_head}
use Rattle.bank_parts.specs.Valid.{IsPreset}
use Rattle.bank_parts.specs.Fits.{FitsHead, FitsOwner}
use Rattle.bank_parts.specs.Sound.{IsSound}
use Rattle.bank_validity.specs.Limits.{totals_of, broken, broken_limit, with_owner}
use Rattle.bank_validity.proofs.LimitLaws.{limits_of, no_limit_of}
use Rattle.bank_parts.proofs.SettingLaws.{source}
use Rattle.bank_changes.specs.Members.{head_of}
use Rattle.bank_changes.specs.Presets.{preset_added, preset_removed, preset_moved, with_name_and_numbers, head_set}
use Rattle.bank_changes.proofs.Changes.{all_changed}
use Rattle.bank_changes.proofs.Everywhere.{all_insert, all_remove}
use Rattle.bank_changes.proofs.Moves.{all_moved}
use Rattle.bank_changes.proofs.TotalsLaws.{level_inserted, level_removed, level_moved, level_headed}
use Rattle.bank_changes.proofs.TotalsLaws.{fewer_owners_within}

-- the bank with other presets
abbrev with_presets : Parts → List (ZoneOwner Head) → Parts
with_presets b presets = record b { presets = presets }

presets_sound : (b : Parts) → IsSound b → (presets : List (ZoneOwner Head))
    → AllByRecursion (IsPreset (length b.instruments)) presets → AllByRecursion (FitsOwner FitsHead) presets
    → broken_limit (with_presets b presets) ≡ None → IsSound (with_presets b presets)
presets_sound b sound presets are fit e =
    let v = sound.valid in
    let f = sound.fits in
    record {
      valid =
          record {
            texts =
                v.texts;
            presets =
                are;
            instruments =
                v.instruments;
            samples = v.samples;
            limits = limits_of (with_presets b presets) e;
          };
      fits =
          record
          { minor = f.minor; texts = f.texts; presets = fit; instruments = f.instruments; samples = f.samples };
    }

-- ---- adding

module _ (b : Parts) (i : ℕ) (p : ZoneOwner Head) where
  pub totals-added_preset : i ≤ length b.presets
      → totals_of (preset_added b i p) ≡ with_owner level.Preset (totals_of b) (records_of_owner p)
  unfolding totals_of
  totals-added_preset le = λ k. record (totals_of b) { presets = level_inserted b.presets i p le k }

  pub sound_added_preset : IsSound b → IsPreset (length b.instruments) p → FitsOwner FitsHead p
      → broken_limit (preset_added b i p) ≡ None → IsSound (preset_added b i p)
  sound_added_preset sound is fits e = presets_sound b sound (insert b.presets i p)
      (all_insert (IsPreset (length b.instruments)) b.presets i p is sound.valid.presets)
      (all_insert (FitsOwner FitsHead) b.presets i p fits sound.fits.presets) e

  pub restored_added_preset : i ≤ length b.presets → preset_removed (preset_added b i p) i ≡ b
  restored_added_preset le = ap (with_presets b) (remove-insert b.presets i p le)

-- ---- removing

module _ (b : Parts) (i : ℕ) (p : ZoneOwner Head) (e : slice_get b.presets i ≡ Some p) where
  pub totals-removed_preset : with_owner level.Preset (totals_of (preset_removed b i)) (records_of_owner p)
      ≡ totals_of b
  unfolding totals_of
  totals-removed_preset = λ k. record (totals_of b) { presets = level_removed b.presets i p e k }

  pub restored_removed_preset : preset_added (preset_removed b i) i p ≡ b
  restored_removed_preset = ap (with_presets b) (insert-remove b.presets i p e)

pub sound_removed_preset : (b : Parts) (i : ℕ) → IsSound b → i < length b.presets → IsSound (preset_removed b i)
sound_removed_preset b i sound lt =
    let (p, e) = slice_get-found b.presets i lt in
    presets_sound b sound (remove b.presets i)
    (all_remove (IsPreset (length b.instruments)) b.presets i sound.valid.presets)
    (all_remove (FitsOwner FitsHead) b.presets i sound.fits.presets)
    (fewer_owners_within level.Preset (totals_of (preset_removed b i)) (records_of_owner p)
    (ap broken (totals-removed_preset b i p e) ∙ no_limit_of b sound.valid.limits))

-- ---- moving

module _ (b : Parts) (i j : ℕ) (lt : i < length b.presets) (lu : j < length b.presets) where
  pub length-preset_moved : length (preset_moved b i j).presets ≡ length b.presets
  length-preset_moved = length-moved b.presets i j lt lu

  pub totals-preset_moved : totals_of (preset_moved b i j) ≡ totals_of b
  unfolding totals_of
  totals-preset_moved = λ k. record (totals_of b) { presets = level_moved b.presets i j lt lu k }

  pub preset_moved_sound : IsSound b → IsSound (preset_moved b i j)
  preset_moved_sound sound = presets_sound b sound (preset_moved b i j).presets
      (all_moved (IsPreset (length b.instruments)) b.presets i j lt sound.valid.presets)
      (all_moved (FitsOwner FitsHead) b.presets i j lt sound.fits.presets)
      (ap broken totals-preset_moved ∙ no_limit_of b sound.valid.limits)

  pub restored_preset_moved : preset_moved (preset_moved b i j) j i ≡ b
  restored_preset_moved = ap (with_presets b) (moved-back b.presets i j lt lu)

-- ---- setting the head

module _ (b : Parts) (i : ℕ) (name : List ℕ) (number bank : ℕ) where
  abbrev called : ZoneOwner Head → ZoneOwner Head
  called = λ x. with_head (with_name_and_numbers name number bank x.head) x

  pub length-head_set : length (head_set b i name number bank).presets ≡ length b.presets
  length-head_set = length-changed b.presets i called

  pub totals-head_set : totals_of (head_set b i name number bank) ≡ totals_of b
  unfolding totals_of
  totals-head_set =
      λ k.
      record (totals_of b)
      { presets = level_headed b.presets i (λ (x : ZoneOwner Head). with_name_and_numbers name number bank x.head) k }

  fits_called : IsName name → number < 2 ^ 16 → bank < 2 ^ 16 → (h : Head) → FitsHead h
      → FitsHead (with_name_and_numbers name number bank h)
  fits_called named n m h f =
      record { name = named; number = n; bank = m; library = f.library; genre = f.genre; morphology = f.morphology }

  pub head_set_sound : IsSound b → IsName name → number < 2 ^ 16 → bank < 2 ^ 16
      → IsSound (head_set b i name number bank)
  head_set_sound sound named n m = presets_sound b sound (head_set b i name number bank).presets
      (all_changed called (IsPreset (length b.instruments)) (λ x is. record { name = named; zones = is.zones })
      b.presets i sound.valid.presets)
      (all_changed called (FitsOwner FitsHead)
      (λ x fits.
      record { head = fits_called named n m x.head fits.head; global = fits.global; zones = fits.zones })
      b.presets i sound.fits.presets)
      (ap broken totals-head_set ∙ no_limit_of b sound.valid.limits)

  -- the old head is restored
  pub restored_head_set : (x : ZoneOwner Head) → slice_get b.presets i ≡ Some x
      → head_set (head_set b i name number bank) i x.head.name x.head.number x.head.bank ≡ b
  restored_head_set x e =
      ap (with_presets b)
      (changed-back b.presets i called
      (λ (y : ZoneOwner Head). with_head (with_name_and_numbers x.head.name x.head.number x.head.bank y.head) y) x e
      refl)

  pub read_head_set : (x : ZoneOwner Head) → slice_get b.presets i ≡ Some x
      → head_of (head_set b i name number bank) i ≡ Some (with_name_and_numbers name number bank x.head)
  read_head_set x e = ap (option_map (λ (y : ZoneOwner Head). y.head)) (slice_get-changed b.presets i called x e)

  -- the new head is made from the old one
  pub head_replaced : (old : Head) → head_at b.presets i ≡ Some old
      → with_presets b (changed b.presets i (with_head (with_name_and_numbers name number bank old)))
      ≡ head_set b i name number bank
  head_replaced old e =
      let h = source (λ (x : ZoneOwner Head). x.head) (slice_get b.presets i) old e in
      ap (with_presets b)
      (changed-found b.presets i (with_head (with_name_and_numbers name number bank old)) h.member h.there
      ∙ (ap (λ (was : Head). slice_set b.presets i (with_head (with_name_and_numbers name number bank was) h.member)) (sym h.seen)
      ∙ sym (changed-found b.presets i called h.member h.there)))
