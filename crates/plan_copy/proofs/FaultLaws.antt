-- Members that can be copied, and the faults of those that can't.
use Rattle.std.proofs.Common.{◌≡◌, ◌<◌, ◌≤◌, ℕ, zero, suc, List, [], ◌∷◌, length, Option, Some, None, Result, Ok, Err}
use Rattle.std.proofs.Common.{slice_get, refl, sym, ap, subst, ◌∙◌, arith}
use Rattle.std.specs.Prelude.{IsOk, is_ok, MatchResult}
use Rattle.std.specs.Option.{option_map, option_map_or}
use Rattle.std.specs.Result.{result_map_both}
use Rattle.std.proofs.lemmas.Option.{slice_get_past}
use Rattle.bank_parts.specs.declared.parts.Head.{Head}
use Rattle.bank_parts.specs.declared.parts.ZoneOwner.{ZoneOwner}
use Rattle.bank_parts.specs.declared.parts.Sample.{Sample}
use Rattle.bank_parts.specs.declared.parts.Parts.{Parts}
use Rattle.bank_parts.specs.Owners.{head_at}
use Rattle.edit_forms.specs.declared.cause.Cause.{Cause}
use Rattle.edit_forms.specs.declared.cause.Cause.TheVariants.{NoSuchPreset, NoSuchInstrument, NoSuchSample}
use Rattle.plan_presets.specs.declared.fault.PresetFault.{PresetFault}
use Rattle.plan_presets.specs.declared.numbers.PresetNumbers.{PresetNumbers}
use Rattle.plan_presets.specs.declared.numbers.CopiedMember.{CopiedMember}
use Rattle.plan_presets.specs.declared.numbers.CopiedMember.TheVariants as variant
use Rattle.plan_copy.specs.declared.fault.CopyFault.{CopyFault}
use Rattle.plan_copy.specs.declared.fault.CopyFault.TheVariants.{NoMember, Numbers}
use Rattle.plan_copy.specs.Copying.{numbers_for, preset_copy, instrument_copy, sample_copy, of_member}
use Rattle.plan_copy.specs.Copying.{preset_appended, instrument_appended, sample_appended, preset_copied, copied}

-- ---- members of a list

no_member : {X Y : Type 0} (cause : Cause) (xs : List X) (i : ℕ) (f : X → Result Y CopyFault) → length xs ≤ i
    → of_member cause xs i f ≡ Err (NoMember cause)
no_member cause xs i f past = ap (λ o. option_map_or f o (Err (NoMember cause))) (slice_get_past xs i past)

member_there : {X Y : Type 0} (cause : Cause) (xs : List X) (i : ℕ) (f : X → Y) → i < length xs
    → IsOk (of_member cause xs i (λ x. Ok (f x)))
member_there cause [] i f lt = absurd (omega arith)
member_there cause (x ∷ xs) zero f lt = refl
member_there cause (x ∷ xs) (suc i) f lt = member_there cause xs i f (omega arith)

-- ---- presets

-- f of a preset, by its numbers
preset_read : (o : Option (ZoneOwner Head)) (h : Head) (b : Parts) (given : Option PresetNumbers)
    (name : Option (List ℕ)) (r : Result PresetNumbers PresetFault)
    → option_map (λ (p : ZoneOwner Head). p.head) o ≡ Some h
    → numbers_for b (record { bank = h.bank; number = h.number }) given ≡ r
    → (p : ZoneOwner Head)
    × (option_map_or (preset_copied b given name) o (Err (NoMember NoSuchPreset))
    ≡ result_map_both (λ (k : PresetNumbers). preset_appended b (preset_copy name k p)) Numbers r)
preset_read None h b given name r at numbers = absurd cc
preset_read (Some p) h b given name r at numbers =
    let head : p.head ≡ h = cc in (
      p,
      ap (result_map_both (λ (k : PresetNumbers). preset_appended b (preset_copy name k p)) Numbers)
          (ap (λ (g : Head). numbers_for b (record { bank = g.bank; number = g.number }) given) head ∙ numbers),
    )

pub preset_missing : (b : Parts) (i : ℕ) (given : Option PresetNumbers) (name : Option (List ℕ))
    → head_at b.presets i ≡ None → copied b (variant.Preset i given) name ≡ Err (NoMember NoSuchPreset)
unfolding copied
preset_missing b i given name at = none (slice_get b.presets i) at
  where
    none : (o : Option (ZoneOwner Head)) → option_map (λ (p : ZoneOwner Head). p.head) o ≡ None
        → option_map_or (preset_copied b given name) o (Err (NoMember NoSuchPreset)) ≡ Err (NoMember NoSuchPreset)
    none None e = refl
    none (Some p) e = absurd cc

pub preset_faulty : (b : Parts) (i : ℕ) (given : Option PresetNumbers) (name : Option (List ℕ)) (h : Head)
    (fault : PresetFault) → head_at b.presets i ≡ Some h
    → numbers_for b (record { bank = h.bank; number = h.number }) given ≡ Err fault
    → copied b (variant.Preset i given) name ≡ Err (Numbers fault)
unfolding copied
preset_faulty b i given name h fault at numbers =
    (preset_read (slice_get b.presets i) h b given name (Err fault) at numbers).1

pub preset_can : (b : Parts) (i : ℕ) (given : Option PresetNumbers) (name : Option (List ℕ)) (h : Head)
    (k : PresetNumbers) → head_at b.presets i ≡ Some h
    → numbers_for b (record { bank = h.bank; number = h.number }) given ≡ Ok k
    → IsOk (copied b (variant.Preset i given) name)
unfolding copied
preset_can b i given name h k at numbers =
    ap is_ok ((preset_read (slice_get b.presets i) h b given name (Ok k) at numbers).1)

-- ---- instruments and samples

pub instrument_missing : (b : Parts) (i : ℕ) (name : Option (List ℕ)) → length b.instruments ≤ i
    → copied b (variant.Inst i) name ≡ Err (NoMember NoSuchInstrument)
unfolding copied
instrument_missing b i name past =
    no_member NoSuchInstrument b.instruments i
    (λ (x : ZoneOwner (List ℕ)). Ok (instrument_appended b (instrument_copy name x))) past

pub instrument_can : (b : Parts) (i : ℕ) (name : Option (List ℕ)) → i < length b.instruments
    → IsOk (copied b (variant.Inst i) name)
unfolding copied
instrument_can b i name lt =
    member_there NoSuchInstrument b.instruments i
    (λ (x : ZoneOwner (List ℕ)). instrument_appended b (instrument_copy name x)) lt

pub sample_missing : (b : Parts) (i : ℕ) (name : Option (List ℕ)) → length b.samples ≤ i
    → copied b (variant.Sample i) name ≡ Err (NoMember NoSuchSample)
unfolding copied
sample_missing b i name past =
    no_member NoSuchSample b.samples i (λ (s : Sample). Ok (sample_appended b (sample_copy name s))) past

pub sample_can : (b : Parts) (i : ℕ) (name : Option (List ℕ)) → i < length b.samples
    → IsOk (copied b (variant.Sample i) name)
unfolding copied
sample_can b i name lt =
    member_there NoSuchSample b.samples i (λ (s : Sample). sample_appended b (sample_copy name s)) lt

-- ---- the results of checks

-- whether member i is in a list of n members
abbrev IsChecked : ℕ → ℕ → Cause → Result (Unit {0}) CopyFault → Type 0
IsChecked i n cause r = MatchResult r (λ _. i < n) (λ fault. (n ≤ i) × (fault ≡ NoMember cause))

-- whether the member can be copied
abbrev pub IsJudged : Parts → CopiedMember → Result (Unit {0}) CopyFault → Type 0
IsJudged b member r =
    MatchResult r (λ _. (name : Option (List ℕ)) → IsOk (copied b member name))
    (λ fault. (name : Option (List ℕ)) → copied b member name ≡ Err fault)

pub instrument_judged : (b : Parts) (i n : ℕ) (r : Result (Unit {0}) CopyFault) → n ≡ length b.instruments
    → IsChecked i n NoSuchInstrument r → IsJudged b (variant.Inst i) r
instrument_judged b i n (Ok u) e h = λ name. instrument_can b i name (subst (λ m. i < m) e h)
instrument_judged b i n (Err fault) e h =
    λ name. instrument_missing b i name (subst (λ m. m ≤ i) e h.0) ∙ ap Err (sym h.1)

pub sample_judged : (b : Parts) (i n : ℕ) (r : Result (Unit {0}) CopyFault) → n ≡ length b.samples
    → IsChecked i n NoSuchSample r → IsJudged b (variant.Sample i) r
sample_judged b i n (Ok u) e h = λ name. sample_can b i name (subst (λ m. i < m) e h)
sample_judged b i n (Err fault) e h =
    λ name. sample_missing b i name (subst (λ m. m ≤ i) e h.0) ∙ ap Err (sym h.1)
