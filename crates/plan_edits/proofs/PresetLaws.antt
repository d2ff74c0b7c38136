-- Removing a preset that isn't kept changes no voice of the others.
use Rattle.std.proofs.Common.{◌≡◌, ◌==◌, ℕ, zero, suc, Bool, true, false, cond, List, [], ◌∷◌, Some}
use Rattle.std.proofs.Common.{Result, Ok, Err, refl, sym, ap, subst, ◌∙◌, remove, slice_get}
use Rattle.std.specs.List.{AllByRecursion, find}
use Rattle.std.specs.Option.{option_map, option_map_or}
use Rattle.std.specs.List.Sorted.{IsPermutation}
use Rattle.std.proofs.lemmas.List.Sorted.{IsPermutation-refl, IsPermutation-trans}
use Rattle.std.proofs.lemmas.Bool.{and_parts, eqb-true}
use Rattle.bank_parts.specs.declared.parts.Head.{Head}
use Rattle.bank_parts.specs.declared.parts.ZoneOwner.{ZoneOwner}
use Rattle.bank_parts.specs.declared.parts.Parts.{Parts}
use Rattle.bank_changes.specs.Members.{head_of}
use Rattle.bank_changes.specs.Presets.{preset_removed}
use Rattle.script_notes.specs.Notes.{Numbers}
use Rattle.zone_select.specs.Select.{selected, preset_voices, number_voices, instrument_voices, sample_voices}
use Rattle.zone_select.specs.Select.{has_preset_numbers}
use Rattle.edit_forms.specs.declared.step.Step.TheVariants.{Preset}
use Rattle.edit_forms.specs.declared.presets.PresetStep.TheVariants.{RemovePreset}
use Rattle.edit_forms.specs.declared.edit.Edit.{Edit}
use Rattle.edit_drafts.specs.Drafts.{IsStepResult}
use Rattle.mixer.specs.Alike.{AreAlikeFor}
use Rattle.mixer.proofs.AlikeLaws.{AreAlike-refl, alike_notes_render}
use Rattle.bank_edits.specs.Runs.{after_all}
use Rattle.script_of_bank.specs.LeadsTo.{Leads}
use Rattle.plan_edits.specs.Uses.{HasNoUnused}
use Rattle.plan_presets.specs.declared.numbers.PresetNumbers.{PresetNumbers}
use Rattle.plan_edits.specs.Keeping.{is_listed, is_kept, is_played, OnlyKept, KeepsNotes, IsKeeping}

-- ---- the first preset of a note

-- without an element that isn't looked for, the same is found
find_without : {X : Type 0} (f : X → Bool) (xs : List X) (i : ℕ) → ((x : X) → slice_get xs i ≡ Some x → f x ≡ false)
    → find f (remove xs i) ≡ find f xs
find_without f [] zero h = refl
find_without f [] (suc i) h = refl
find_without f (x ∷ xs) zero h = sym (ap (λ r. cond r (Some x) (find f xs)) (h x refl))
find_without f (x ∷ xs) (suc i) h = ap (λ r. cond (f x) (Some x) r) (find_without f xs i h)

only_false : (q : Bool) → (q ≡ true → false ≡ true) → q ≡ false
only_false true h = sym (h refl)
only_false false h = refl

-- a note of kept presets has none that isn't kept
kept_of_note : (kept : List PresetNumbers) (n : Numbers) (p : ZoneOwner Head) → is_played kept n ≡ true → is_kept kept p ≡ false
    → has_preset_numbers n p ≡ false
unfolding has_preset_numbers
kept_of_note kept n p played gone =
    only_false (has_preset_numbers n p)
    (λ e.
    let parts = and_parts (p.head.bank == n.bank) (p.head.number == n.number) e in
    sym gone
    ∙ ap (λ b. is_listed kept b p.head.number) (eqb-true p.head.bank n.bank parts.0)
    ∙ ap (λ m. is_listed kept n.bank m) (eqb-true p.head.number n.number parts.1)
    ∙ played)

voices_without : (b : Parts) (n : Numbers) (i : ℕ)
    → ((p : ZoneOwner Head) → slice_get b.presets i ≡ Some p → has_preset_numbers n p ≡ false)
    → selected (preset_removed b i) n ≡ selected b n
unfolding selected preset_voices number_voices instrument_voices sample_voices
voices_without b n i h =
    ap (λ o. option_map_or (preset_voices b n) o []) (find_without (has_preset_numbers n) b.presets i h)

-- ---- one step

-- a preset that isn't kept is removed
pub removal_keeps : {Why : Type 0} → (kept : List PresetNumbers) (old new : Parts) (was now : List Edit) (i : ℕ) (h : Head)
    (r : Result (Unit {0}) Why)
    → head_of old i ≡ Some h → is_listed kept h.bank h.number ≡ false
    → IsStepResult old new was now (Preset (RemovePreset i)) r → KeepsNotes kept old new
removal_keeps kept old new was now i h (Ok done) is gone d n played =
    let not_kept : (p : ZoneOwner Head) → slice_get old.presets i ≡ Some p → is_kept kept p ≡ false =
    λ p at.
    ap (λ o. option_map_or (λ (x : Head). is_listed kept x.bank x.number) o false)
    (sym (ap (option_map (λ (x : ZoneOwner Head). x.head)) at) ∙ is)
    ∙ gone in
    subst (λ (x : Parts). IsPermutation (selected old n) (selected x n)) (sym d.changed)
    (subst (λ vs. IsPermutation (selected old n) vs)
    (sym (voices_without old n i (λ p at. kept_of_note kept n p played (not_kept p at))))
    (IsPermutation-refl (selected old n)))
removal_keeps kept old new was now i h (Err why) is gone d n played =
    subst (λ (x : Parts). IsPermutation (selected old n) (selected x n)) (sym d.bank) (AreAlike-refl old n)

pub keeps_same : (kept : List PresetNumbers) (b : Parts) → KeepsNotes kept b b
keeps_same kept b n _ = AreAlike-refl b n

pub keeps_on : (kept : List PresetNumbers) (b c d : Parts) → KeepsNotes kept b c → KeepsNotes kept c d → KeepsNotes kept b d
keeps_on kept b c d h g n played =
    IsPermutation-trans (selected b n) (selected c n) (selected d n) (h n played) (g n played)

-- ---- all edits

alike_for_kept : (kept : List PresetNumbers) (b c : Parts) → KeepsNotes kept b c → (ns : List Numbers)
    → AllByRecursion (λ n. is_played kept n ≡ true) ns → AreAlikeFor b c ns
alike_for_kept kept b c h [] played = tt
alike_for_kept kept b c h (n ∷ ns) played = (h n played.0, alike_for_kept kept b c h ns played.1)

pub keeping : (kept : List PresetNumbers) (b now : Parts) (edits : List Edit) → Leads b edits now → KeepsNotes kept b now
    → OnlyKept kept now → HasNoUnused now → IsKeeping kept b edits
keeping kept b now edits leads keeps only used = record {
  is_accepted = leads.is_accepted;
  same =
      λ ns played.
      alike_notes_render b (after_all b edits) ns
      (alike_for_kept kept b (after_all b edits) (subst (KeepsNotes kept b) (sym leads.given) keeps) ns played);
  only = subst (OnlyKept kept) (sym leads.given) only;
  used = subst HasNoUnused (sym leads.given) used;
}
