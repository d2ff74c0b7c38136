-- A copy plays as its original, and notes on other presets render as before.
use Rattle.std.proofs.Common.{◌≡◌, ◌==◌, ◌&&◌, ◌||◌, ◌<◌, ℕ, zero, suc, Bool, true, false, cond, List, [], ◌∷◌, ◌++◌, length}
use Rattle.std.proofs.Common.{Option, Some, None, Result, Ok, Err, slice_get, refl, sym, ap, subst, ◌∙◌, eq-eqb, arith}
use Rattle.std.specs.List.{AllByRecursion, find}
use Rattle.std.specs.List.Sorted.{IsPermutation}
use Rattle.std.specs.Option.{option_map_or, option_or, is_some}
use Rattle.std.specs.Result.{result_map_both}
use Rattle.std.proofs.lemmas.List.Folds.{find-append}
use Rattle.bank_parts.specs.declared.parts.Head.{Head}
use Rattle.bank_parts.specs.declared.parts.Zone.{Zone}
use Rattle.bank_parts.specs.declared.parts.ZoneOwner.{ZoneOwner}
use Rattle.bank_parts.specs.declared.parts.Sample.{Sample}
use Rattle.bank_parts.specs.declared.parts.Parts.{Parts}
use Rattle.bank_parts.specs.Sound.{IsSound}
use Rattle.script_notes.specs.Notes.{Numbers as NoteNumbers}
use Rattle.zone_select.specs.Select.{selected, preset_voices, number_voices, instrument_voices, sample_voices}
use Rattle.zone_select.specs.Select.{has_preset_numbers}
use Rattle.mixer.specs.Alike.{AreAlikeFor}
use Rattle.mixer.proofs.AlikeLaws.{AreAlike-refl, alike_notes_render, alike_render}
use Rattle.edit_forms.specs.declared.cause.Cause.TheVariants.{NoSuchPreset}
use Rattle.edit_forms.specs.declared.step.Step.{Step}
use Rattle.edit_forms.specs.declared.edit.Edit.{Edit}
use Rattle.edit_forms.specs.declared.edit.Edit.TheVariants.{One}
use Rattle.edit_forms.specs.Steps.{raw}
use Rattle.bank_edits.specs.Runs.{after_all}
use Rattle.bank_edits.specs.Undone.{IsAccepted}
use Rattle.sound_neutral_edits.proofs.FormLaws.{neutral_alike}
use Rattle.script_of_bank.specs.LeadsTo.{Leads}
use Rattle.edit_drafts.specs.Drafts.{Drafted, IsDoneStep}
use Rattle.plan_presets.specs.declared.fault.PresetFault.{PresetFault}
use Rattle.plan_presets.specs.declared.numbers.PresetNumbers.{PresetNumbers}
use Rattle.plan_presets.specs.declared.numbers.TakenPreset.{TakenPreset}
use Rattle.plan_presets.specs.declared.numbers.CopiedMember.{CopiedMember}
use Rattle.plan_presets.specs.declared.numbers.CopiedMember.TheVariants as variant
use Rattle.plan_take.specs.Taking.{is_numbered, preset_with, has_preset, is_on, is_taken, OfEach, IsCopied}
use Rattle.plan_take.specs.Taking.{KeepsOthers}
use Rattle.plan_take.specs.TakeFaults.{numbers_of}
use Rattle.plan_take.specs.Matches.{AreBoth, SamplesMatch, ZonesMatch, OwnersMatch}
use Rattle.plan_take.specs.Additions.{KeepsOtherVoices}
use Rattle.plan_take.proofs.VoiceLaws.{AreRelated, AllRelated, same_selected}
use Rattle.plan_take.proofs.RenderLaws.{same_render}
use Rattle.plan_copy.specs.declared.fault.CopyFault.TheVariants.{NoMember, Numbers}
use Rattle.plan_copy.specs.Copying.{numbers_for, preset_copy, preset_appended, preset_copied, copied}
use Rattle.plan_copy.specs.Copying.{copy_of, copies, IsPlayed, PlaysSame, IsCopying}
use Rattle.plan_copy.specs.CopySteps.{IsCopyStep}
use Rattle.plan_copy.proofs.NumberLaws.{are_free}

-- ---- the first preset with some numbers, after one is appended

abbrev numbers_test : PresetNumbers → ZoneOwner Head → Bool
numbers_test k p = is_numbered k p.head

none_or : {X : Type 0} (o r : Option X) → is_some o ≡ false → option_or o r ≡ r
none_or None r free = refl
none_or (Some x) r free = absurd cc

or_none : {X : Type 0} (o : Option X) → option_or o None ≡ o
or_none None = refl
or_none (Some x) = refl

numbered_self : (k : PresetNumbers) → (k.bank == k.bank && k.number == k.number) ≡ true
numbered_self k = λ i. eq-eqb k.bank k.bank refl i && eq-eqb k.number k.number refl i

copy_found : (presets : List (ZoneOwner Head)) (name : Option (List ℕ)) (k : PresetNumbers) (p : ZoneOwner Head)
    → has_preset presets k ≡ false → preset_with (presets ++ preset_copy name k p ∷ []) k ≡ Some (preset_copy name k p)
copy_found presets name k p free =
    find-append (numbers_test k) presets (preset_copy name k p ∷ [])
    ∙ none_or (preset_with presets k) (find (numbers_test k) (preset_copy name k p ∷ [])) free
    ∙ ap (λ q. cond q (Some (preset_copy name k p)) None) (numbered_self k)

other_found : (test : ZoneOwner Head → Bool) (presets : List (ZoneOwner Head)) (p : ZoneOwner Head) → test p ≡ false
    → find test (presets ++ p ∷ []) ≡ find test presets
other_found test presets p other =
    find-append test presets (p ∷ [])
    ∙ ap (λ q. option_or (find test presets) (cond q (Some p) None)) other
    ∙ or_none (find test presets)

-- ---- members that match themselves

abbrev Same : ℕ → ℕ → Type 0
Same i j = i ≡ j

sample_same : (o : Option Sample) → AreRelated SamplesMatch o o
sample_same None = tt
sample_same (Some s) = record { points = refl; looped = refl; rate = refl; key = refl; correction = refl }

zones_same : (zs : List Zone) (k : ℕ) → k < length zs → AreBoth (ZonesMatch Same) (slice_get zs k) (slice_get zs k)
zones_same [] k lt = absurd (omega arith)
zones_same (z ∷ zs) zero lt = record { gens = refl; mods = refl; target = refl }
zones_same (z ∷ zs) (suc k) lt = zones_same zs k (omega arith)

owner_same : {H : Type 0} (o : Option (ZoneOwner H)) → AreRelated (OwnersMatch Same) o o
owner_same None = tt
owner_same (Some x) = record { global = refl; count = refl; zones = zones_same x.zones }

all_same : {X : Type 0} (R : X → X → Type 0) (xs : List X) → ((o : Option X) → AreRelated R o o) → AllRelated R Same xs xs
all_same R xs same i j e = subst (λ k. AreRelated R (slice_get xs i) (slice_get xs k)) e (same (slice_get xs i))

-- ---- one preset

module _ (b : Parts) (name : Option (List ℕ)) (p : ZoneOwner Head) (k : PresetNumbers)
    (free : has_preset b.presets k ≡ false) where
  abbrev with_copy : Parts
  with_copy = preset_appended b (preset_copy name k p)

  abbrev taken : TakenPreset
  taken = record { from = numbers_of p; to = k }

  copy_plays : Some p ≡ preset_with b.presets (numbers_of p) → IsCopied b with_copy taken
  copy_plays played n =
      sym
      (same_selected n (numbers_of p) k b with_copy Same Same
      (all_same SamplesMatch b.samples sample_same) (all_same (OwnersMatch Same) b.instruments owner_same)
      (subst (λ o. AreRelated (OwnersMatch Same) o (preset_with with_copy.presets k)) played
      (subst (λ o. AreRelated (OwnersMatch Same) (Some p) o) (sym (copy_found b.presets name k p free))
      (let same : OwnersMatch Same p (preset_copy name k p) =
      record { global = refl; count = refl; zones = zones_same p.zones } in same))))

  plays_same : Some p ≡ preset_with b.presets (numbers_of p) → PlaysSame b with_copy taken
  plays_same played = let plays = copy_plays played in (plays, same_render with_copy b k (numbers_of p) plays)

  same_voices : (n : NoteNumbers) → is_on k n ≡ false → selected with_copy n ≡ selected b n
  unfolding selected preset_voices number_voices instrument_voices sample_voices has_preset_numbers
  same_voices n other =
      ap (λ o. option_map_or (preset_voices b n) o [])
      (other_found (has_preset_numbers n) b.presets (preset_copy name k p) other)

  keeps_voices : KeepsOtherVoices (taken ∷ []) b with_copy
  keeps_voices n other =
      subst (λ vs. IsPermutation (selected b n) vs) (sym (same_voices n (first_false (is_on k n) other)))
      (AreAlike-refl b n)
    where
      first_false : (q : Bool) → (q || false) ≡ false → q ≡ false
      first_false true e = absurd cc
      first_false false e = refl

-- ---- what follows from the exact result

alike_for_others : (presets : List TakenPreset) (b c : Parts) → KeepsOtherVoices presets b c → (ns : List NoteNumbers)
    → AllByRecursion (λ n. is_taken presets n ≡ false) ns → AreAlikeFor b c ns
alike_for_others presets b c h [] others = tt
alike_for_others presets b c h (n ∷ ns) others = (h n others.0, alike_for_others presets b c h ns others.1)

-- the bank c with the copy of a preset, and the presets that are copied
record OfPreset (b c : Parts) (original : Option (ZoneOwner Head)) (presets : List TakenPreset) : Type 0 where
  renders : OfEach (λ t. original ≡ preset_with b.presets t.from → PlaysSame b c t) presets
  voices : KeepsOtherVoices presets b c

one_of : (P : TakenPreset → Type 0) (t : TakenPreset) → P t → OfEach P (t ∷ [])
one_of P t h zero u at = let same : t ≡ u = cc in subst P same h
one_of P t h (suc i) u at = absurd cc

of_numbers : (b c : Parts) (name : Option (List ℕ)) (p : ZoneOwner Head) (r : Result PresetNumbers PresetFault)
    → ((k : PresetNumbers) → r ≡ Ok k → has_preset b.presets k ≡ false)
    → result_map_both (λ (k : PresetNumbers). preset_appended b (preset_copy name k p)) Numbers r ≡ Ok c
    → OfPreset b c (Some p) (copy_of (numbers_of p) r)
of_numbers b c name p (Err fault) free e = absurd cc
of_numbers b c name p (Ok k) free e =
    let same : preset_appended b (preset_copy name k p) ≡ c = cc in
    let presets = copy_of (numbers_of p) (Ok k) in
    subst (λ (d : Parts). OfPreset b d (Some p) presets) same
    (record {
      renders =
          one_of (λ t. Some p ≡ preset_with b.presets t.from → PlaysSame b (preset_appended b (preset_copy name k p)) t)
          (record { from = numbers_of p; to = k }) (plays_same b name p k (free k refl));
      voices = keeps_voices b name p k (free k refl);
    })

of_original : (b c : Parts) (given : Option PresetNumbers) (name : Option (List ℕ)) (o : Option (ZoneOwner Head))
    → option_map_or (preset_copied b given name) o (Err (NoMember NoSuchPreset)) ≡ Ok c
    → OfPreset b c o
    (option_map_or (λ (p : ZoneOwner Head). copy_of (numbers_of p) (numbers_for b (numbers_of p) given)) o [])
of_original b c given name None e = absurd cc
of_original b c given name (Some p) e =
    of_numbers b c name p (numbers_for b (numbers_of p) given) (λ k. are_free b (numbers_of p) k given) e

of_preset : (b c : Parts) (i : ℕ) (given : Option PresetNumbers) (name : Option (List ℕ))
    → copied b (variant.Preset i given) name ≡ Ok c
    → OfPreset b c (slice_get b.presets i) (copies b (variant.Preset i given))
unfolding copied copies
of_preset b c i given name e = of_original b c given name (slice_get b.presets i) e

no_copies : (P : TakenPreset → Type 0) → OfEach P []
no_copies P i t at = absurd cc

-- A preset that its numbers play and its copy render identically.
pub copy_renders : (b c : Parts) (member : CopiedMember) (name : Option (List ℕ)) → copied b member name ≡ Ok c
    → OfEach (λ t. IsPlayed b member t → PlaysSame b c t) (copies b member)
unfolding copies
copy_renders b c (variant.Preset i given) name e = (of_preset b c i given name e).renders
copy_renders b c (variant.Inst i) name e = no_copies (λ t. IsPlayed b (variant.Inst i) t → PlaysSame b c t)
copy_renders b c (variant.Sample i) name e = no_copies (λ t. IsPlayed b (variant.Sample i) t → PlaysSame b c t)

-- Notes on other presets render as before.
keeps_others : (b : Parts) (member : CopiedMember) (name : Option (List ℕ)) (s : Step) → IsSound b
    → IsAccepted b (One s) → IsCopyStep b member name s → KeepsOthers (copies b member) b (raw b s)
keeps_others b (variant.Preset i given) name s sound accepted h ns others =
    let presets = copies b (variant.Preset i given) in
    alike_notes_render b (raw b s) ns
    (alike_for_others presets b (raw b s) (of_preset b (raw b s) i given name h.result).voices ns others)
keeps_others b (variant.Inst i) name s sound accepted h ns others =
    alike_render b (raw b s) (neutral_alike b (One s) sound accepted h.neutral) ns
keeps_others b (variant.Sample i) name s sound accepted h ns others =
    alike_render b (raw b s) (neutral_alike b (One s) sound accepted h.neutral) ns

-- ---- the edits

pub copying : (b : Parts) (member : CopiedMember) (name : Option (List ℕ)) (s : Step) (d0 d1 : Drafted) (edits : List Edit)
    → IsSound b → IsCopyStep b member name s → d0.first ≡ b → d0.bank ≡ b → d1.first ≡ d0.first
    → IsDoneStep d0.bank d1.bank d0.edits d1.edits s → Leads d1.first edits d1.bank → IsCopying member name b edits
copying b member name s d0 d1 edits sound h start same first done leads =
    let from_b : Leads b edits d1.bank = subst (λ f. Leads f edits d1.bank) (first ∙ start) leads in
    let accepted : IsAccepted b (One s) = subst (λ (x : Parts). IsAccepted x (One s)) same done.is_accepted in
    let given : after_all b edits ≡ raw b s = from_b.given ∙ done.changed ∙ ap (λ (x : Parts). raw x s) same in
    record {
      is_accepted = from_b.is_accepted;
      result = h.result ∙ ap Ok (sym given);
      renders =
          subst (λ (c : Parts). OfEach (λ t. IsPlayed b member t → PlaysSame b c t) (copies b member)) (sym given)
          (copy_renders b (raw b s) member name h.result);
      others =
          subst (KeepsOthers (copies b member) b) (sym given) (keeps_others b member name s sound accepted h);
    }
