-- A bank whose presets are the same, with renumbered instruments and samples, has the same voices; and edits to a bank
-- with the same voices and no unused members.
use Rattle.std.proofs.Common.{◌≡◌, ℕ, zero, suc, ◌<◌, Bool, true, false, cond, Option, Some, None, List, [], ◌∷◌}
use Rattle.std.proofs.Common.{length, slice_get, refl, sym, ap, subst, ◌∙◌, arith, ◌==◌, ◌&&◌}
use Rattle.std.specs.List.{find}
use Rattle.std.specs.Option.{option_map}
use Rattle.std.specs.List.Sorted.{IsPermutation}
use Rattle.bank_parts.specs.declared.parts.Head.{Head}
use Rattle.bank_parts.specs.declared.parts.ZoneOwner.{ZoneOwner}
use Rattle.bank_parts.specs.declared.parts.Parts.{Parts}
use Rattle.script_notes.specs.Notes.{Numbers}
use Rattle.zone_select.specs.Select.{selected}
use Rattle.zone_select.specs.Alike.{AreAlike}
use Rattle.mixer.specs.Render.{render}
use Rattle.mixer.proofs.AlikeLaws.{AreAlike-refl, alike_render}
use Rattle.edit_forms.specs.declared.edit.Edit.{Edit}
use Rattle.script_of_bank.specs.LeadsTo.{Leads}
use Rattle.plan_edits.specs.Uses.{HasNoUnused}
use Rattle.plan_presets.specs.declared.numbers.PresetNumbers.{PresetNumbers}
use Rattle.plan_take.specs.Taking.{is_numbered, preset_with}
use Rattle.plan_take.specs.Matches.{AreBoth, HasNumber, AllMatch, SamplesMatch, OwnersMatch, Renumbered}
use Rattle.plan_take.specs.RemovingDuplicates.{IsSamePreset, AreSamePresets, KeepsAllVoices}
use Rattle.plan_take.specs.RemovingDuplicates.{IsRemovingDuplicates}
use Rattle.plan_take.proofs.VoiceLaws.{AreRelated, related, same_selected}

-- ---- presets

-- two presets by their heads and zones
pub same_preset : (instruments : List (Option ℕ)) (o p : Option (ZoneOwner Head))
    → option_map (λ (x : ZoneOwner Head). x.head) o ≡ option_map (λ (x : ZoneOwner Head). x.head) p
    → AreBoth (Renumbered instruments) o p → AreBoth (IsSamePreset instruments) o p
same_preset instruments None p h m = absurd m
same_preset instruments (Some x) None h m = absurd m
same_preset instruments (Some x) (Some y) h m = record { head = (let e : x.head ≡ y.head = cc in e); zones = m }

abbrev first_with : List (Option ℕ) → List (ZoneOwner Head) → List (ZoneOwner Head) → PresetNumbers → Type 0
first_with instruments ps qs k = AreRelated (OwnersMatch (HasNumber instruments)) (preset_with ps k) (preset_with qs k)

-- the first preset with some numbers, in lists of the same presets
pub first_same : (instruments : List (Option ℕ)) (k : PresetNumbers) (ps qs : List (ZoneOwner Head)) → length ps ≡ length qs
    → ((i : ℕ) → i < length ps → AreBoth (IsSamePreset instruments) (slice_get ps i) (slice_get qs i))
    → first_with instruments ps qs k
first_same instruments k [] [] l h = tt
first_same instruments k [] (q ∷ qs) l h = absurd (omega (arith, l))
first_same instruments k (p ∷ ps) [] l h = absurd (omega (arith, l))
first_same instruments k (p ∷ ps) (q ∷ qs) l h =
    let first : IsSamePreset instruments p q = h zero (omega arith) in
    by (is_numbered k p.head) (is_numbered k q.head) (ap (is_numbered k) first.head) first.zones
    (first_same instruments k ps qs (omega (arith, l)) (λ i lt. h (suc i) (omega arith)))
  where
    by : (s t : Bool) → s ≡ t → OwnersMatch (HasNumber instruments) p q → first_with instruments ps qs k
        → AreRelated (OwnersMatch (HasNumber instruments)) (cond s (Some p) (preset_with ps k)) (cond t (Some q) (preset_with qs k))
    by true true e m r = m
    by true false e m r = absurd cc
    by false true e m r = absurd cc
    by false false e m r = r

-- the numbers of a note's preset
abbrev preset_of : Numbers → PresetNumbers
preset_of n = record { bank = n.bank; number = n.number }

pub voices_kept : (b c : Parts) (samples instruments : List (Option ℕ))
    → AllMatch SamplesMatch samples b.samples c.samples
    → AllMatch (Renumbered samples) instruments b.instruments c.instruments
    → AreSamePresets instruments b.presets c.presets → KeepsAllVoices b c
voices_kept b c samples instruments heard played same n =
    same_selected n (preset_of n) (preset_of n) b c (HasNumber samples) (HasNumber instruments)
    (λ i j h. related SamplesMatch (slice_get b.samples i) (slice_get c.samples j) (heard i j h))
    (λ i j h. related (Renumbered samples) (slice_get b.instruments i) (slice_get c.instruments j) (played i j h))
    (first_same instruments (preset_of n) b.presets c.presets same.count same.each)

-- ---- a draft that keeps the voices

pub voices_alike : (b c : Parts) → KeepsAllVoices b c → AreAlike b c
voices_alike b c h n = subst (IsPermutation (selected b n)) (h n) (AreAlike-refl b n)

pub removing : (b first now : Parts) (edits : List Edit) → first ≡ b → AreAlike b now → Leads first edits now
    → HasNoUnused now → IsRemovingDuplicates b edits
removing b first now edits e alike leads used =
    let of_bank : Leads b edits now = subst (λ f. Leads f edits now) e leads in record {
      is_accepted = of_bank.is_accepted;
      same =
          λ ns.
          subst (λ (c : Parts). render b ns ≡ render c ns) (sym of_bank.given) (alike_render b now alike ns);
      used = subst HasNoUnused (sym of_bank.given) used;
    }
