-- Adding samples and instruments changes no voices, and adding a preset none of notes on others.
use Rattle.std.proofs.Common.{◌≡◌, ◌<◌, ℕ, zero, suc, Bool, true, false, cond, List, [], ◌∷◌, length, Option, Some, None}
use Rattle.std.proofs.Common.{Result, Ok, Err, refl, sym, ap, subst, ◌∙◌, insert, slice_get}
use Rattle.std.specs.List.{AllByRecursion, find}
use Rattle.std.specs.Option.{option_map_or, is_some}
use Rattle.std.specs.List.Sorted.{IsPermutation}
use Rattle.std.proofs.lemmas.List.Sorted.{IsPermutation-refl, IsPermutation-trans}
use Rattle.std.proofs.lemmas.Map.Keys.{any_passes_from_place}
use Rattle.bank_parts.specs.declared.parts.ZoneOwner.{ZoneOwner}
use Rattle.bank_parts.specs.declared.parts.Head.{Head}
use Rattle.bank_parts.specs.declared.parts.Parts.{Parts}
use Rattle.bank_changes.specs.Presets.{preset_added}
use Rattle.script_notes.specs.Notes.{Numbers}
use Rattle.zone_select.specs.Select.{selected, preset_voices, number_voices, instrument_voices, sample_voices}
use Rattle.zone_select.specs.Select.{has_preset_numbers}
use Rattle.zone_select.specs.Alike.{AreAlike}
use Rattle.bank_parts.specs.Sound.{IsSound}
use Rattle.edit_forms.specs.Steps.{is_neutral_step}
use Rattle.edit_forms.specs.declared.step.Step.{Step}
use Rattle.edit_forms.specs.declared.edit.Edit.TheVariants.{One}
use Rattle.sound_neutral_edits.proofs.FormLaws.{neutral_alike}
use Rattle.edit_forms.specs.declared.step.Step.TheVariants.{Preset}
use Rattle.edit_forms.specs.declared.presets.PresetStep.TheVariants.{AddPreset}
use Rattle.edit_forms.specs.declared.edit.Edit.{Edit}
use Rattle.edit_drafts.specs.Drafts.{Drafted, IsStepResult}
use Rattle.mixer.specs.Alike.{AreAlikeFor}
use Rattle.mixer.proofs.AlikeLaws.{AreAlike-refl, AreAlike-trans, alike_notes_render}
use Rattle.bank_edits.specs.Runs.{after_all}
use Rattle.script_of_bank.specs.LeadsTo.{Leads}
use Rattle.plan_presets.specs.declared.numbers.PresetNumbers.{PresetNumbers}
use Rattle.plan_presets.specs.declared.numbers.TakenPreset.{TakenPreset}
use Rattle.plan_take.specs.Taking.{is_on, is_taken, OfEach, IsTakeable, IsCopied, CopyRenders, IsTaking}
use Rattle.plan_take.proofs.SearchLaws.{get_some}
use Rattle.plan_take.proofs.RenderLaws.{same_render}
use Rattle.plan_take.specs.Additions.{KeepsVoices, KeepsOtherVoices, AddsMembers, AddsPresets}

-- ---- neutral steps

pub adds_step : {Why : Type 0} → (old new : Drafted) (s : Step) (r : Result (Unit {0}) Why) → IsSound old.bank
    → is_neutral_step s ≡ true → new.first ≡ old.first → IsStepResult old.bank new.bank old.edits new.edits s r
    → AddsMembers old new
adds_step old new s (Ok done) sound n first d = record {
  first = first;
  alike = subst (AreAlike old.bank) (sym d.changed) (neutral_alike old.bank (One s) sound d.is_accepted n);
}
adds_step old new s (Err why) sound n first d = record {
  first = first;
  alike = subst (AreAlike old.bank) (sym d.bank) (AreAlike-refl old.bank);
}

pub adds_nothing : (d : Drafted) → AddsMembers d d
adds_nothing d = record { first = refl; alike = AreAlike-refl d.bank }

pub adds_both : (a b c : Drafted) → AddsMembers a b → AddsMembers b c → AddsMembers a c
adds_both a b c h g = record {
  first = g.first ∙ h.first;
  alike = AreAlike-trans a.bank b.bank c.bank h.alike g.alike;
}

-- ---- the first preset of a note

-- with an element that isn't looked for, the same is found
find_with : {X : Type 0} (f : X → Bool) (xs : List X) (i : ℕ) (x : X) → f x ≡ false
    → find f (insert xs i x) ≡ find f xs
find_with f [] zero x h = ap (λ r. cond r (Some x) None) h
find_with f [] (suc i) x h = ap (λ r. cond r (Some x) None) h
find_with f (y ∷ ys) zero x h = ap (λ r. cond r (Some x) (find f (y ∷ ys))) h
find_with f (y ∷ ys) (suc i) x h = ap (λ r. cond (f y) (Some y) r) (find_with f ys i x h)

voices_with : (b : Parts) (n : Numbers) (i : ℕ) (p : ZoneOwner Head) → has_preset_numbers n p ≡ false
    → selected (preset_added b i p) n ≡ selected b n
unfolding selected preset_voices number_voices instrument_voices sample_voices
voices_with b n i p h =
    ap (λ o. option_map_or (preset_voices b n) o []) (find_with (has_preset_numbers n) b.presets i p h)

-- ---- one step

abbrev numbers_in : Head → PresetNumbers
numbers_in h = record { bank = h.bank; number = h.number }

pub addition_keeps : {Why : Type 0} → (old new : Parts) (was now : List Edit) (i : ℕ) (p : ZoneOwner Head)
    (r : Result (Unit {0}) Why)
    → IsStepResult old new was now (Preset (AddPreset i p)) r → KeepsVoices (numbers_in p.head) old new
unfolding has_preset_numbers
addition_keeps old new was now i p (Ok done) d n other =
    subst (λ (x : Parts). IsPermutation (selected old n) (selected x n)) (sym d.changed)
    (subst (λ vs. IsPermutation (selected old n) vs) (sym (voices_with old n i p other))
    (IsPermutation-refl (selected old n)))
addition_keeps old new was now i p (Err why) d n other =
    subst (λ (x : Parts). IsPermutation (selected old n) (selected x n)) (sym d.bank) (AreAlike-refl old n)

pub keeps_same : (k : PresetNumbers) (b : Parts) → KeepsVoices k b b
keeps_same k b n _ = AreAlike-refl b n

-- ---- a list of presets

pub adds_no_preset : (presets : List TakenPreset) (d : Drafted) → AddsPresets presets d d
adds_no_preset presets d = record { first = refl; others = λ n _. AreAlike-refl d.bank n }

only_false : (q : Bool) → (q ≡ true → false ≡ true) → q ≡ false
only_false true h = sym (h refl)
only_false false h = refl

-- a note on none of the presets isn't on preset i
not_on : (presets : List TakenPreset) (n : Numbers) (i : ℕ) (p : TakenPreset) → slice_get presets i ≡ Some p
    → is_taken presets n ≡ false → is_on p.to n ≡ false
not_on presets n i p at h =
    only_false (is_on p.to n)
    (λ t. sym h ∙ any_passes_from_place (λ (q : TakenPreset). is_on q.to n) presets i p at t)

adds_found : (presets : List TakenPreset) (i : ℕ) (p : TakenPreset) (a b c : Drafted) → slice_get presets i ≡ Some p
    → AddsPresets presets a b → c.first ≡ b.first → KeepsVoices p.to b.bank c.bank → AddsPresets presets a c
adds_found presets i p a b c at h first keeps = record {
  first = first ∙ h.first;
  others =
      λ n other.
      IsPermutation-trans (selected a.bank n) (selected b.bank n) (selected c.bank n) (h.others n other)
      (keeps n (not_on presets n i p at other));
}

pub adds_next : (presets : List TakenPreset) (i : ℕ) (a b c : Drafted) → i < length presets → AddsPresets presets a b
    → c.first ≡ b.first
    → ((p : TakenPreset) → slice_get presets i ≡ Some p → KeepsVoices p.to b.bank c.bank) → AddsPresets presets a c
adds_next presets i a b c lt h first keeps = by_member (slice_get presets i) refl (get_some presets i lt)
  where
    by_member : (o : Option TakenPreset) → slice_get presets i ≡ o → is_some (slice_get presets i) ≡ true
        → AddsPresets presets a c
    by_member None at some = absurd cc
    by_member (Some p) at some = adds_found presets i p a b c at h first (keeps p at)

-- ---- all edits

alike_for_others : (presets : List TakenPreset) (b c : Parts) → KeepsOtherVoices presets b c → (ns : List Numbers)
    → AllByRecursion (λ n. is_taken presets n ≡ false) ns → AreAlikeFor b c ns
alike_for_others presets b c h [] others = tt
alike_for_others presets b c h (n ∷ ns) others = (h n others.0, alike_for_others presets b c h ns others.1)

-- a draft with samples, then instruments, then presets added
pub taking : (from b : Parts) (presets : List TakenPreset) (d0 d1 d2 d3 : Drafted) (edits : List Edit)
    → OfEach (IsTakeable from b) presets → d0.first ≡ b → d0.bank ≡ b
    → AddsMembers d0 d1 → AddsMembers d1 d2 → AddsPresets presets d2 d3
    → OfEach (IsCopied from d3.bank) presets → d3.bank.texts ≡ b.texts → Leads d3.first edits d3.bank
    → IsTaking from presets b edits
taking from b presets d0 d1 d2 d3 edits possible start same samples instruments added copied texts leads =
    let first : d3.first ≡ b = added.first ∙ instruments.first ∙ samples.first ∙ start in
    let given : after_all b edits ≡ d3.bank = subst (λ f. after_all f edits ≡ d3.bank) first leads.given in
    let keeps : KeepsOtherVoices presets b d3.bank =
    subst (λ (x : Parts). KeepsOtherVoices presets x d3.bank) same
    (λ n other.
    IsPermutation-trans (selected d0.bank n) (selected d1.bank n) (selected d3.bank n) (samples.alike n)
    (IsPermutation-trans (selected d1.bank n) (selected d2.bank n) (selected d3.bank n) (instruments.alike n)
    (added.others n other))) in
    record {
      possible = possible;
      is_accepted = (subst (λ f. Leads f edits d3.bank) first leads).is_accepted;
      taken = subst (λ (x : Parts). OfEach (IsCopied from x) presets) (sym given) copied;
      renders =
          λ i p at.
          subst (λ (x : Parts). CopyRenders from x p) (sym given)
          (same_render d3.bank from p.to p.from (copied i p at));
      others =
          λ ns others.
          alike_notes_render b (after_all b edits) ns
          (alike_for_others presets b (after_all b edits) (subst (KeepsOtherVoices presets b) (sym given) keeps) ns others);
      texts = ap (λ (x : Parts). x.texts) given ∙ texts;
    }
