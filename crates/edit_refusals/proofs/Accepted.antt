-- A step is accepted exactly if no test applies and no limit is broken.
use Rattle.std.proofs.Common.{◌≡◌, ◌<◌, ◌≤◌, ◌++◌, ℕ, nat_le, nat_lt, Bool, true, false, cond, Option, Some, None}
use Rattle.std.proofs.Common.{Result, Ok, Err, List, [], ◌∷◌, refl, ◌∙◌, ap, arith}
use Rattle.std.proofs.lemmas.Bool.Decides.{nat_tests}
use Rattle.std.specs.Option.{option_map}
use Rattle.bank_validity.specs.declared.limits.Limit.{Limit}
use Rattle.bank_parts.specs.declared.parts.Parts.{Parts}
use Rattle.bank_parts.specs.Sound.{IsSound}
use Rattle.bank_validity.specs.Limits.{broken_limit}
use Rattle.bank_validity.proofs.LimitLaws.{no_limit_of}
use Rattle.edit_forms.specs.declared.step.Step.{Step}
use Rattle.edit_forms.specs.declared.cause.Cause.{Cause}
use Rattle.edit_forms.specs.declared.cause.Cause.TheVariants.{Full}
use Rattle.edit_forms.specs.Causes.{Test, first_cause}
use Rattle.edit_forms.specs.Steps.{raw, refusal, causes}
use Rattle.edit_refusals.specs.Answers.{IsTestResult, IsRefuseResult}

abbrev pub NoneApplies : List Test → Type 0
NoneApplies [] = Unit {0}
NoneApplies (t ∷ others) = (t.applies ≡ false) × NoneApplies others

pub record IsAccepted (b : Parts) (s : Step) : Type 0 where
  pub tests : NoneApplies (causes b s)
  pub limits : broken_limit (raw b s) ≡ None

not_full : (l : Option Limit) → option_map Full l ≡ None → l ≡ None
not_full None h = refl
not_full (Some x) h = cc

passes : (t : Bool) (cause : Cause) (rest : Option Cause) → cond t (Some cause) rest ≡ None
    → (t ≡ false) × (rest ≡ None)
passes true cause rest h = cc
passes false cause rest h = (refl, h)

-- a list of tests and a limit, none of which applies
first_none : (ts : List Test) (l : Option Limit) → first_cause ts (option_map Full l) ≡ None
    → NoneApplies ts × (l ≡ None)
first_none [] l h = (tt, not_full l h)
first_none (t ∷ ts) l h =
    let here = passes t.applies t.cause (first_cause ts (option_map Full l)) h in
    let rest = first_none ts l here.1 in
    ((here.0, rest.0), rest.1)

pub accepted : (b : Parts) (s : Step) → refusal b s ≡ None → IsAccepted b s
accepted b s h = let n = first_none (causes b s) (broken_limit (raw b s)) h in record { tests = n.0; limits = n.1 }

last_cause : (ts : List Test) (last : Option Cause) → NoneApplies ts → first_cause ts last ≡ last
last_cause [] last h = refl
last_cause (t ∷ ts) last h = let here = h.0 in rw here (last_cause ts last h.1)

-- a step is accepted if no test applies and the changed bank is sound
pub accepted_by : (b : Parts) (s : Step) → NoneApplies (causes b s) → IsSound (raw b s) → refusal b s ≡ None
accepted_by b s tests sound =
    last_cause (causes b s) (option_map Full (broken_limit (raw b s))) tests
    ∙ ap (option_map Full) (no_limit_of (raw b s) sound.valid.limits)

-- ---- results of the functions

judged : (why last : Option Cause) (r : Result (Unit {0}) Cause) → why ≡ last → IsRefuseResult last r → IsRefuseResult why r
judged why last (Ok done) e h = e ∙ h
judged why last (Err cause) e h = e ∙ h

-- if no test applies, the result is the broken limit
pub by_limit : (b : Parts) (s : Step) (l : Option Limit) (r : Result (Unit {0}) Cause) → NoneApplies (causes b s)
    → broken_limit (raw b s) ≡ l
    → IsRefuseResult (option_map Full l) r → IsRefuseResult (refusal b s) r
by_limit b s l r tests is =
    judged (refusal b s) (option_map Full l) r
    (last_cause (causes b s) (option_map Full (broken_limit (raw b s))) tests ∙ ap (option_map Full) is)

reported : (applies : Bool) (cause : Cause) (last : Option Cause) → applies ≡ true
    → cond applies (Some cause) last ≡ Some cause
reported true cause last h = refl
reported false cause last h = cc

-- if no other test applies, the result is the last test; if that does not apply either, no limit is broken
pub by_last : (ts : List Test) (t : Test) (l : Option Limit) (r : Result (Unit {0}) Cause) → NoneApplies ts
    → IsTestResult t r → (t.applies ≡ false → l ≡ None)
    → IsRefuseResult (first_cause (ts ++ t ∷ []) (option_map Full l)) r
by_last [] t l (Ok done) none h within =
    last_cause (t ∷ []) (option_map Full l) (h, tt) ∙ ap (option_map Full) (within h)
by_last [] t l (Err cause) none h within = reported t.applies t.cause (option_map Full l) h.0 ∙ ap Some (rw h.1 refl)
by_last (x ∷ ts) t l (Ok done) none h within = let here = none.0 in rw here (by_last ts t l (Ok done) none.1 h within)
by_last (x ∷ ts) t l (Err cause) none h within =
    let here = none.0 in rw here (by_last ts t l (Err cause) none.1 h within)

-- ---- numbers

pub below : (n i : ℕ) → nat_le n i ≡ false → i < n
below n i h = grind (arith, nat_tests)

pub not_below : (n i : ℕ) → i < n → nat_le n i ≡ false
not_below n i h = grind (arith, nat_tests)

pub up_to : (n i : ℕ) → nat_lt n i ≡ false → i ≤ n
up_to n i h = grind (arith, nat_tests)

pub not_above : (n i : ℕ) → i ≤ n → nat_lt n i ≡ false
not_above n i h = grind (arith, nat_tests)
