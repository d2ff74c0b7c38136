-- Steps that add a member at the end of its list.
use Rattle.std.proofs.Common.{◌≡◌, ℕ, List, [], ◌∷◌, ◌++◌, length, Option, Some, None, Result, Ok, Err, slice_get}
use Rattle.std.proofs.Common.{insert, refl, sym, ap, subst, ◌∙◌, arith}
use Rattle.std.specs.Option.{option_map, option_map_or}
use Rattle.std.specs.Result.{result_map_both}
use Rattle.bank_parts.specs.declared.parts.Head.{Head}
use Rattle.bank_parts.specs.declared.parts.ZoneOwner.{ZoneOwner}
use Rattle.bank_parts.specs.declared.parts.Sample.{Sample}
use Rattle.bank_parts.specs.declared.parts.Parts.{Parts}
use Rattle.bank_parts.specs.Owners.{head_at, with_head}
use Rattle.bank_parts.specs.Valid.{IsValid}
use Rattle.bank_changes.specs.Presets.{preset_added, with_name_and_numbers}
use Rattle.bank_changes.specs.Instruments.{instrument_added}
use Rattle.bank_changes.proofs.InstrumentLaws.{added_last_instrument}
use Rattle.bank_changes.proofs.SampleLaws.{pushed}
use Rattle.edit_forms.specs.declared.cause.Cause.{Cause}
use Rattle.edit_forms.specs.declared.cause.Cause.TheVariants.{NoSuchPreset, NoSuchInstrument, NoSuchSample}
use Rattle.edit_forms.specs.declared.step.Step.TheVariants as step
use Rattle.edit_forms.specs.declared.presets.PresetStep.TheVariants.{AddPreset}
use Rattle.edit_forms.specs.declared.instruments.InstrumentStep.TheVariants.{AddInstrument}
use Rattle.edit_forms.specs.declared.samples.SampleStep.TheVariants.{AddSample}
use Rattle.plan_presets.specs.declared.numbers.PresetNumbers.{PresetNumbers}
use Rattle.plan_presets.specs.declared.numbers.CopiedMember.TheVariants as variant
use Rattle.plan_take.specs.TakeFaults.{numbers_of}
use Rattle.plan_copy.specs.declared.fault.CopyFault.{CopyFault}
use Rattle.plan_copy.specs.declared.fault.CopyFault.TheVariants.{NoMember, Numbers}
use Rattle.plan_copy.specs.Copying.{numbers_for, name_or, preset_copy, instrument_copy, sample_copy, of_member}
use Rattle.plan_copy.specs.Copying.{preset_appended, instrument_appended, sample_appended, preset_copied, copied}
use Rattle.plan_copy.specs.CopySteps.{IsCopyStep}

insert_last : {X : Type 0} (xs : List X) (n : ℕ) (x : X) → n ≡ length xs → insert xs n x ≡ xs ++ x ∷ []
insert_last xs n x e = ap (λ m. insert xs m x) e ∙ at_end xs x
  where
    at_end : {X : Type 0} (ys : List X) (y : X) → insert ys (length ys) y ≡ ys ++ y ∷ []
    at_end [] y = refl
    at_end (z ∷ ys) y = ap (λ zs. z ∷ zs) (at_end ys y)

-- f of a member that is there
pub member_read : {X Y : Type 0} (cause : Cause) (xs : List X) (i : ℕ) (f : X → Result Y CopyFault) (x : X)
    → slice_get xs i ≡ Some x → of_member cause xs i f ≡ f x
member_read cause xs i f x at = ap (λ o. option_map_or f o (Err (NoMember cause))) at

-- an owner by its head and its copy with another head
owner_by_head : {H : Type 0} (o : Option (ZoneOwner H)) (h new : H) (q : ZoneOwner H)
    → option_map (λ (x : ZoneOwner H). x.head) o ≡ Some h → option_map (with_head new) o ≡ Some q
    → (x : ZoneOwner H) × (o ≡ Some x) × (x.head ≡ h) × (with_head new x ≡ q)
owner_by_head None h new q at made = absurd cc
owner_by_head (Some x) h new q at made =
    let head : x.head ≡ h = cc in
    let made_of : with_head new x ≡ q = cc in (x, refl, head, made_of)

-- ---- presets

-- a preset with numbers for its copy is copied
pub preset_is_copied : (b : Parts) (i : ℕ) (given : Option PresetNumbers) (name : Option (List ℕ)) (p : ZoneOwner Head)
    (k : PresetNumbers) → slice_get b.presets i ≡ Some p → numbers_for b (numbers_of p) given ≡ Ok k
    → copied b (variant.Preset i given) name ≡ Ok (preset_appended b (preset_copy name k p))
unfolding copied
preset_is_copied b i given name p k at numbers =
    member_read NoSuchPreset b.presets i (preset_copied b given name) p at
    ∙ ap (result_map_both (λ (l : PresetNumbers). preset_appended b (preset_copy name l p)) Numbers) numbers

appends_preset : (b : Parts) (n : ℕ) (p q : ZoneOwner Head) → p ≡ q → n ≡ length b.presets
    → preset_appended b p ≡ preset_added b n q
appends_preset b n p q same last =
    let presets = ap (λ (x : ZoneOwner Head). b.presets ++ x ∷ []) same ∙ sym (insert_last b.presets n q last) in
    λ j. record b { presets = presets j }

-- The names and lists are those that calls returned.
pub adds_preset : (b : Parts) (i n : ℕ) (given : Option PresetNumbers) (name : Option (List ℕ)) (h : Head)
    (k : PresetNumbers) (q : ZoneOwner Head) (new : List ℕ) (presets : List (ZoneOwner Head)) → head_at b.presets i ≡ Some h
    → numbers_for b (record { bank = h.bank; number = h.number }) given ≡ Ok k → new ≡ name_or name h.name
    → presets ≡ b.presets
    → option_map (with_head (with_name_and_numbers new k.number k.bank h)) (slice_get presets i) ≡ Some q
    → n ≡ length b.presets → IsCopyStep b (variant.Preset i given) name (step.Preset (AddPreset n q))
adds_preset b i n given name h k q new presets at numbers named read made last =
    let head_with : List ℕ → Head → Head = λ text g. with_name_and_numbers text k.number k.bank g in
    let made_of = sym (λ j. option_map (with_head (head_with (named j) h)) (slice_get (read j) i)) ∙ made in
    let w = owner_by_head (slice_get b.presets i) h (head_with (name_or name h.name) h) q at made_of in
    let p = w.0 in
    let head = w.2 in
    let there =
    subst (λ (g : Head). numbers_for b (record { bank = g.bank; number = g.number }) given ≡ Ok k) (sym head) numbers in
    let same : preset_copy name k p ≡ q =
    ap (λ (g : Head). with_head (head_with (name_or name g.name) g) p) head ∙ w.3 in
    record {
      result = preset_is_copied b i given name p k w.1 there ∙ ap Ok (appends_preset b n (preset_copy name k p) q same last);
      neutral = tt;
    }

-- ---- instruments

appends_instrument : (b : Parts) (n : ℕ) (x q : ZoneOwner (List ℕ)) → IsValid b → x ≡ q → n ≡ length b.instruments
    → instrument_appended b x ≡ instrument_added b n q
appends_instrument b n x q valid same last =
    let instruments = ap (λ (y : ZoneOwner (List ℕ)). b.instruments ++ y ∷ []) same ∙ sym (insert_last b.instruments n q last) in
    (λ j. record b { instruments = instruments j }) ∙ added_last_instrument b n q valid (omega (arith, last))

pub adds_instrument : (b : Parts) (i n : ℕ) (name : Option (List ℕ)) (h : List ℕ) (q : ZoneOwner (List ℕ))
    (new : List ℕ) (instruments : List (ZoneOwner (List ℕ))) → IsValid b → head_at b.instruments i ≡ Some h
    → new ≡ name_or name h → instruments ≡ b.instruments
    → option_map (with_head new) (slice_get instruments i) ≡ Some q
    → n ≡ length b.instruments → IsCopyStep b (variant.Inst i) name (step.Instrument (AddInstrument n q))
unfolding copied
adds_instrument b i n name h q new instruments valid at named read made last =
    let made_of = sym (λ j. option_map (with_head (named j)) (slice_get (read j) i)) ∙ made in
    let w = owner_by_head (slice_get b.instruments i) h (name_or name h) q at made_of in
    let x = w.0 in
    let same : instrument_copy name x ≡ q = ap (λ (g : List ℕ). with_head (name_or name g) x) w.2 ∙ w.3 in
    record {
      result =
          member_read NoSuchInstrument b.instruments i
          (λ (y : ZoneOwner (List ℕ)). Ok (instrument_appended b (instrument_copy name y))) x w.1
          ∙ ap Ok (appends_instrument b n (instrument_copy name x) q valid same last);
      neutral = refl;
    }

-- ---- samples

pub adds_sample : (b : Parts) (i n : ℕ) (name : Option (List ℕ)) (s q : Sample) → IsValid b
    → slice_get b.samples i ≡ Some s → q ≡ sample_copy name s → n ≡ length b.samples
    → IsCopyStep b (variant.Sample i) name (step.Sample (AddSample n q))
unfolding copied
adds_sample b i n name s q valid at made last = record {
  result =
      member_read NoSuchSample b.samples i (λ (t : Sample). Ok (sample_appended b (sample_copy name t))) s at
      ∙ ap (λ (t : Sample). Ok (sample_appended b t)) (sym made)
      ∙ ap Ok (pushed b n q (b.samples ++ q ∷ []) (Ok tt) valid last refl);
  neutral = refl;
}
