-- The causes of each form are in the order of their numbers.
use Rattle.std.proofs.Common.{◌≡◌, ◌≤◌, ◌<◌, ℕ, zero, suc, nat_le, ◌&&◌, Bool, true, false, cond, Option, Some, None}
use Rattle.std.proofs.Common.{List, [], ◌∷◌, length, refl, sym, ap, ◌∙◌, ◌⊎◌, inl, inr, arith}
use Rattle.std.specs.Prelude.{MatchOption}
use Rattle.std.specs.List.{Any, slice_index_or}
use Rattle.std.specs.Option.{option_map}
use Rattle.std.proofs.lemmas.Bool.Decides.{nat_tests}
use Rattle.bank_parts.specs.declared.parts.Parts.{Parts}
use Rattle.bank_validity.specs.declared.limits.Limit.{Limit}
use Rattle.bank_validity.specs.Limits.{broken_limit}
use Rattle.edit_forms.specs.declared.step.Step.{Step}
use Rattle.edit_forms.specs.declared.cause.Cause.{Cause}
use Rattle.edit_forms.specs.declared.cause.Cause.TheVariants.{NoSuchPreset, NoSuchInstrument, NoSuchSample}
use Rattle.edit_forms.specs.declared.cause.Cause.TheVariants.{NoSuchZone, NoSuchModulator, BadPlace, InUse}
use Rattle.edit_forms.specs.declared.cause.Cause.TheVariants.{BadGenerator, NotSet, BadRange, SplitOutside}
use Rattle.edit_forms.specs.declared.cause.Cause.TheVariants.{NotJoinable, LinkedModulator, TooShort, LoopCut}
use Rattle.edit_forms.specs.declared.cause.Cause.TheVariants.{BadLoop, BadText, Full}
use Rattle.edit_forms.specs.CauseNames.{number_of}
use Rattle.edit_forms.specs.Causes.{Test, first_cause, no_such_zone_at}
use Rattle.edit_forms.specs.Steps.{raw, causes, refusal}
use Rattle.edit_refusals.specs.Order.{NumbersNeverFall, CauseApplies, IsLowest, LowestIsReported}
use Rattle.edit_forms.specs.declared.step.Step.TheVariants.{Preset, Instrument, Sample, Points, Zone, Setting, Text}
use Rattle.edit_forms.specs.Zones as zones
use Rattle.edit_forms.specs.Settings as settings
use Rattle.edit_refusals.proofs.Rises.{rises, after_owner, after_place}
use Rattle.edit_refusals.proofs.PresetLaws.{preset_rises}
use Rattle.edit_refusals.proofs.InstrumentLaws.{instrument_rises}
use Rattle.edit_refusals.proofs.SampleLaws.{sample_rises}
use Rattle.edit_refusals.proofs.PointLaws.{points_rises}
use Rattle.edit_refusals.proofs.ZoneLaws.{zone_rises}
use Rattle.edit_refusals.proofs.SettingLaws.{setting_rises}
use Rattle.edit_refusals.proofs.TextLaws.{text_rises}

each_rises : (b : Parts) (s : Step) → rises 0 (causes b s) ≡ true
each_rises b (Preset s) = preset_rises b s
each_rises b (Instrument s) = instrument_rises b s
each_rises b (Sample s) = sample_rises b s
each_rises b (Points i s) = points_rises b i s
each_rises b (Zone o s) = after_owner b o (zones.causes b o s) (zone_rises b o s)
each_rises b (Setting o at s) =
    after_owner b o (no_such_zone_at b o at ∷ settings.causes b o at s)
    (after_place b o at (settings.causes b o at s) (setting_rises b o at s))
each_rises b (Text s) = text_rises b s

both : (x y : Bool) → (x && y) ≡ true → (x ≡ true) × (y ≡ true)
both true y h = (refl, h)
both false y h = cc

up_from : (n m : ℕ) → nat_le n m ≡ true → n ≤ m
up_from n m h = grind (arith, nat_tests)

at_least : (n : ℕ) (ts : List Test) → rises n ts ≡ true → (k : ℕ) (d : Test) → k < length ts
    → n ≤ number_of (slice_index_or ts k d).cause
at_least n [] h k d lt = omega (arith, lt)
at_least n (t ∷ ts) h zero d lt =
    up_from n (number_of t.cause) (both (nat_le n (number_of t.cause)) (rises (number_of t.cause) ts) h).0
at_least n (t ∷ ts) h (suc k) d lt =
    let p = both (nat_le n (number_of t.cause)) (rises (number_of t.cause) ts) h in
    let first = up_from n (number_of t.cause) p.0 in
    let later = at_least (number_of t.cause) ts p.1 k d (omega (arith, lt)) in omega (arith, first, later)

never_falls : (n : ℕ) (ts : List Test) → rises n ts ≡ true → (i j : ℕ) (d : Test) → i ≤ j → j < length ts
    → number_of (slice_index_or ts i d).cause ≤ number_of (slice_index_or ts j d).cause
never_falls n [] h i j d le lt = omega (arith, lt)
never_falls n (t ∷ ts) h zero zero d le lt = omega arith
never_falls n (t ∷ ts) h (suc i) zero d le lt = omega (arith, le)
never_falls n (t ∷ ts) h zero (suc j) d le lt =
    at_least (number_of t.cause) ts (both (nat_le n (number_of t.cause)) (rises (number_of t.cause) ts) h).1 j d
    (omega (arith, lt))
never_falls n (t ∷ ts) h (suc i) (suc j) d le lt =
    never_falls (number_of t.cause) ts (both (nat_le n (number_of t.cause)) (rises (number_of t.cause) ts) h).1 i j d
    (omega (arith, le)) (omega (arith, lt))

pub numbers_never_fall : NumbersNeverFall
numbers_never_fall b s = never_falls 0 (causes b s) (each_rises b s)

-- ---- the reported cause has the lowest number

abbrev AppliesIn : List Test → Option Limit → Cause → Type 0
AppliesIn ts l cause = Any (λ (t : Test). (t.applies ≡ true) × (t.cause ≡ cause)) ts ⊎ (option_map Full l ≡ Some cause)

record IsLowestIn (ts : List Test) (l : Option Limit) (cause : Cause) : Type 0 where
  applies : AppliesIn ts l cause
  lowest : (other : Cause) → AppliesIn ts l other → number_of cause ≤ number_of other

no_higher : (cause : Cause) → number_of cause ≤ 37
no_higher NoSuchPreset = omega arith
no_higher NoSuchInstrument = omega arith
no_higher NoSuchSample = omega arith
no_higher NoSuchZone = omega arith
no_higher NoSuchModulator = omega arith
no_higher BadPlace = omega arith
no_higher InUse = omega arith
no_higher BadGenerator = omega arith
no_higher NotSet = omega arith
no_higher BadRange = omega arith
no_higher SplitOutside = omega arith
no_higher NotJoinable = omega arith
no_higher LinkedModulator = omega arith
no_higher TooShort = omega arith
no_higher LoopCut = omega arith
no_higher BadLoop = omega arith
no_higher BadText = omega arith
no_higher (Full limit) = omega arith

-- a limit has the highest number
up_to_limit : (cause : Cause) (l : Option Limit) (other : Cause) → option_map Full l ≡ Some other
    → number_of cause ≤ number_of other
up_to_limit cause None other h = cc
up_to_limit cause (Some limit) other h = let e : Full limit ≡ other = cc in rw (sym e) (no_higher cause)

-- the cause of the first test, if it applies, has the lowest number
first_is : (n : ℕ) (t : Test) (ts : List Test) (l : Option Limit) (other : Cause) → rises n (t ∷ ts) ≡ true
    → AppliesIn (t ∷ ts) l other → number_of t.cause ≤ number_of other
first_is n t ts l other up (inl (k, x, lt, at, is)) =
    let least = never_falls n (t ∷ ts) up 0 k x (omega arith) lt in
    let here : number_of (slice_index_or (t ∷ ts) k x).cause ≡ number_of other =
    ap (λ (y : Test). number_of y.cause) at ∙ ap number_of is.1 in
    omega (arith, least, here)
first_is n t ts l other up (inr e) = up_to_limit t.cause l other e

-- a cause that applies, but not by the first test, applies by a later one
later : (t : Test) (ts : List Test) (l : Option Limit) (other : Cause) → t.applies ≡ false → AppliesIn (t ∷ ts) l other
    → AppliesIn ts l other
later t ts l other off (inl (zero, x, lt, at, is)) =
    let e : t.applies ≡ x.applies = ap (λ (y : Test). y.applies) at in let on = is.0 in cc
later t ts l other off (inl (suc k, x, lt, at, is)) = inl (k, x, omega (arith, lt), at, is)
later t ts l other off (inr e) = inr e

-- a cause that applies by a later test applies by the whole list
following : (t : Test) (ts : List Test) (l : Option Limit) (cause : Cause) → AppliesIn ts l cause
    → AppliesIn (t ∷ ts) l cause
following t ts l cause (inl (k, x, lt, at, is)) = inl (suc k, x, omega (arith, lt), at, is)
following t ts l cause (inr e) = inr e

none_is_there : (other : Cause) (l : Option Limit) → AppliesIn [] l other → option_map Full l ≡ Some other
none_is_there other l (inl (k, x, lt, at, is)) = absurd (omega (arith, lt))
none_is_there other l (inr e) = e

-- the first test applies, or the lowest cause is that of the others
lowest_of : (n : ℕ) (t : Test) (ts : List Test) (l : Option Limit) (cause : Cause) → rises n (t ∷ ts) ≡ true
    → ((t.applies ≡ true) × (t.cause ≡ cause)) ⊎ ((t.applies ≡ false) × IsLowestIn ts l cause)
    → IsLowestIn (t ∷ ts) l cause
lowest_of n t ts l cause up (inl is) = record {
  applies = inl (0, t, omega arith, refl, is);
  lowest = λ other s. let e = is.1 in rw (sym (ap number_of e)) (first_is n t ts l other up s);
}
lowest_of n t ts l cause up (inr rest) = record {
  applies = following t ts l cause rest.1.applies;
  lowest = λ other s. rest.1.lowest other (later t ts l other rest.0 s);
}

-- the first test applies, or the cause is that of the others
reported : (t : Test) (applies : Bool) (rest : Option Cause) (cause : Cause) (L : Type 0) → (rest ≡ Some cause → L)
    → cond applies (Some t.cause) rest ≡ Some cause
    → ((applies ≡ true) × (t.cause ≡ cause)) ⊎ ((applies ≡ false) × L)
reported t true rest cause L go h = inl (refl, cc)
reported t false rest cause L go h = inr (refl, go h)

lowest_in : (n : ℕ) (ts : List Test) (l : Option Limit) (cause : Cause) → rises n ts ≡ true
    → first_cause ts (option_map Full l) ≡ Some cause → IsLowestIn ts l cause
lowest_in n [] l cause up h = record {
  applies = inr h;
  lowest = λ other is. up_to_limit cause l other (none_is_there other l is);
}
lowest_in n (t ∷ ts) l cause up h =
    let above = (both (nat_le n (number_of t.cause)) (rises (number_of t.cause) ts) up).1 in
    lowest_of n t ts l cause up
    (reported t t.applies (first_cause ts (option_map Full l)) cause (IsLowestIn ts l cause)
    (lowest_in (number_of t.cause) ts l cause above) h)

-- if no cause is reported, none applies
none_reported : (applies : Bool) (cause : Cause) (rest : Option Cause) → cond applies (Some cause) rest ≡ None
    → (applies ≡ false) × (rest ≡ None)
none_reported true cause rest h = cc
none_reported false cause rest h = (refl, h)

none_in : (ts : List Test) (l : Option Limit) → first_cause ts (option_map Full l) ≡ None → (other : Cause)
    → AppliesIn ts l other → ⊥
none_in [] l h other s = let e = none_is_there other l s in cc
none_in (t ∷ ts) l h other s =
    let n = none_reported t.applies t.cause (first_cause ts (option_map Full l)) h in
    none_in ts l n.1 other (later t ts l other n.0 s)

by_answer : (b : Parts) (s : Step) (answer : Option Cause) → refusal b s ≡ answer
    → MatchOption answer ((other : Cause) → CauseApplies b s other → ⊥) (IsLowest b s)
by_answer b s None h = none_in (causes b s) (broken_limit (raw b s)) h
by_answer b s (Some cause) h =
    let lowest = lowest_in 0 (causes b s) (broken_limit (raw b s)) cause (each_rises b s) h in
    record { applies = lowest.applies; lowest = lowest.lowest }

pub lowest_is_reported : LowestIsReported
lowest_is_reported b s = by_answer b s (refusal b s) refl
