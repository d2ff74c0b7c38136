-- Facts about presets and about instruments, stated once for owners.
use Rattle.std.proofs.Common.{◌≡◌, ℕ, List, length, Option, Some, None}
use Rattle.std.specs.Prelude.{slice_get}
use Rattle.sf_base.specs.Names.{IsName}
use Rattle.base_numbered_lists.specs.Moved.{changed}
use Rattle.base_numbered_lists.proofs.Lists.{length-changed}
use Rattle.bank_parts.specs.declared.parts.Head.{Head}
use Rattle.bank_parts.specs.declared.parts.ZoneOwner.{ZoneOwner}
use Rattle.bank_parts.specs.declared.parts.Parts.{Parts}
use Rattle.bank_parts.specs.Valid.{IsOwner, IsPreset, IsInstrument}
use Rattle.bank_parts.specs.Fits.{FitsOwner, FitsHead}
use Rattle.bank_parts.specs.Sound.{IsSound}
use Rattle.bank_validity.specs.Limits.{broken_limit}
use Rattle.bank_validity.proofs.LimitLaws.{limits_of}
use Rattle.bank_changes.specs.declared.members.Owner.{Owner}
use Rattle.bank_changes.specs.declared.members.Owner.TheVariants.{Preset, Inst}
use Rattle.bank_changes.specs.Members.{read_of_owner, owner_list_changed, level_of, target_count}
use Rattle.bank_changes.proofs.Changes.{all_found, all_changed}

-- what is read of an owner of a sound bank
pub of_sound : {X : Type 0} (b : Parts) (o : Owner) (read : (H : Type 0) → List (ZoneOwner H) → ℕ → Option X)
    (P : X → Type 0)
    → ((H : Type 0) (name_of : H → List ℕ) (IsFit : H → Type 0) (owners : List (ZoneOwner H)) (i : ℕ)
    → ((x : ZoneOwner H) → slice_get owners i ≡ Some x
    → IsOwner name_of (level_of o) (target_count b o) x × FitsOwner IsFit x)
    → (x : X) → read H owners i ≡ Some x → P x)
    → IsSound b → (x : X) → read_of_owner b o read ≡ Some x → P x
of_sound b (Preset p) read P law sound =
    law Head (λ h. h.name) FitsHead b.presets p (λ x e. (
      all_found (IsPreset (length b.instruments)) b.presets p x e sound.valid.presets,
      all_found (FitsOwner FitsHead) b.presets p x e sound.fits.presets,
    ))
of_sound b (Inst i) read P law sound =
    law (List ℕ) (λ name. name) IsName b.instruments i (λ x e. (
      all_found (IsInstrument (length b.samples)) b.instruments i x e sound.valid.instruments,
      all_found (FitsOwner IsName) b.instruments i x e sound.fits.instruments,
    ))

-- an owner is changed by f, and the bank stays sound
pub sound_owner_changed : (b : Parts) (o : Owner) (f : (H : Type 0) → ZoneOwner H → ZoneOwner H)
    → ((H : Type 0) (name_of : H → List ℕ) (x : ZoneOwner H)
    → IsOwner name_of (level_of o) (target_count b o) x → IsOwner name_of (level_of o) (target_count b o) (f H x))
    → ((H : Type 0) (IsFit : H → Type 0) (x : ZoneOwner H) → FitsOwner IsFit x → FitsOwner IsFit (f H x))
    → IsSound b → broken_limit (owner_list_changed b o (λ H owners i. changed owners i (f H))) ≡ None
    → IsSound (owner_list_changed b o (λ H owners i. changed owners i (f H)))
sound_owner_changed b (Preset p) f valid fits sound within =
    let v = sound.valid in
    let t = sound.fits in
    record {
      valid = record {
        texts = v.texts;
        presets =
            all_changed (f Head) (IsPreset (length b.instruments)) (valid Head (λ h. h.name)) b.presets p v.presets;
        instruments = v.instruments;
        samples = v.samples;
        limits = limits_of (owner_list_changed b (Preset p) (λ H owners i. changed owners i (f H))) within;
      };
      fits = record {
        minor = t.minor;
        texts = t.texts;
        presets = all_changed (f Head) (FitsOwner FitsHead) (fits Head FitsHead) b.presets p t.presets;
        instruments = t.instruments;
        samples = t.samples;
      };
    }
sound_owner_changed b (Inst i) f valid fits sound within =
    let v = sound.valid in
    let t = sound.fits in
    record {
      valid = record {
        texts = v.texts;
        presets = rw (length-changed b.instruments i (f (List ℕ))) v.presets;
        instruments =
            all_changed (f (List ℕ)) (IsInstrument (length b.samples)) (valid (List ℕ) (λ name. name)) b.instruments i
            v.instruments;
        samples = v.samples;
        limits = limits_of (owner_list_changed b (Inst i) (λ H owners i. changed owners i (f H))) within;
      };
      fits = record {
        minor = t.minor;
        texts = t.texts;
        presets = t.presets;
        instruments = all_changed (f (List ℕ)) (FitsOwner IsName) (fits (List ℕ) IsName) b.instruments i t.instruments;
        samples = t.samples;
      };
    }
