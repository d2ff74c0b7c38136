-- The form that edits a text: when it is accepted.
use Rattle.std.proofs.Common.{◌≡◌, ◌<◌, ◌==◌, ◌&&◌, ◌||◌, ℕ, Bool, true, false, nat_lt, List, length, None, refl}
use Rattle.std.proofs.Common.{◌∙◌, ap, arith}
use Rattle.std.proofs.lemmas.Bool.Decides.{nat_tests}
use Rattle.std.specs.List.{list_any}
use Rattle.sf_base.specs.Names.{IsTextByte}
use Rattle.bank_parts.specs.declared.texts.InfoId.{InfoId}
use Rattle.bank_parts.specs.declared.parts.Parts.{Parts}
use Rattle.bank_parts.specs.Texts.{most_bytes, is_engine}
use Rattle.bank_parts.specs.Valid.{IsValid}
use Rattle.bank_parts.specs.Fits.{FitsText}
use Rattle.bank_parts.specs.Sound.{IsSound}
use Rattle.bank_validity.specs.Limits.{broken, broken_limit}
use Rattle.bank_validity.proofs.LimitLaws.{no_limit_of}
use Rattle.bank_changes.specs.Texts.{info_set}
use Rattle.bank_changes.proofs.Everywhere.{all_weaker, all_both, none_passes, passes_none, or_left, or_right, or_none}
use Rattle.bank_changes.proofs.TextLaws.{IsInfo, info_sound, totals-info}
use Rattle.edit_forms.specs.declared.texts.TextStep.TheVariants.{SetInfo}
use Rattle.edit_forms.specs.declared.step.Step.TheVariants as steps
use Rattle.edit_forms.specs.Causes.{bad_text}
use Rattle.edit_forms.specs.Steps.{refusal}
use Rattle.edit_refusals.proofs.Accepted.{accepted, up_to, not_above}
use Rattle.edit_forms.specs.declared.texts.TextStep.{TextStep}
use Rattle.edit_forms.specs.Texts as texts
use Rattle.edit_refusals.proofs.Rises.{rises}

-- ---- the test of a text

module _ (id : InfoId) (text : List ℕ) where
  zero_there : (e : Bool) → (e && length text == 0) ≡ false → e ≡ true → 0 < length text
  zero_there true h k = grind (arith, nat_tests)
  zero_there false h k = absurd cc

  there_zero : (e : Bool) → (e ≡ true → 0 < length text) → (e && length text == 0) ≡ false
  there_zero true h = let lt = h refl in grind (arith, nat_tests)
  there_zero false h = refl

  too_long : Bool
  too_long = nat_lt (most_bytes id) (length text)

  has_zero : Bool
  has_zero = list_any (λ byte. byte == 0) text

  is_empty : Bool
  is_empty = is_engine id && length text == 0

  not_zero : (n : ℕ) → (n == 0) ≡ false → 0 < n
  not_zero n h = grind (arith, nat_tests)

  over_zero : (n : ℕ) → 0 < n → (n == 0) ≡ false
  over_zero n h = grind (arith, nat_tests)

  pub good_text : FitsText text → (bad_text id text).applies ≡ false → IsInfo id text
  unfolding too_long has_zero is_empty
  good_text f h =
      let rest = or_right too_long (has_zero || is_empty) h in
      record {
        fits = (
          up_to (most_bytes id) (length text) (or_left too_long (has_zero || is_empty) h),
          all_both (λ byte. byte < 256) (λ byte. (byte == 0) ≡ false) IsTextByte
              (λ byte lt ne. (not_zero byte ne, lt)) text f
              (none_passes (λ byte. byte == 0) text (or_left has_zero is_empty rest)),
        );
        there = zero_there (is_engine id) (or_right has_zero is_empty rest);
      }

  pub not_bad : IsInfo id text → (bad_text id text).applies ≡ false
  unfolding too_long has_zero is_empty
  not_bad h =
      or_none too_long (has_zero || is_empty)
      (not_above (most_bytes id) (length text) h.fits.0)
      (or_none has_zero is_empty
      (passes_none (λ byte. byte == 0) text
      (all_weaker IsTextByte (λ byte. (byte == 0) ≡ false) (λ byte k. over_zero byte k.0) text h.fits.1))
      (there_zero (is_engine id) h.there))

-- ---- set-info

module _ (b : Parts) (id : InfoId) (text : List ℕ) where
  pub sound_set_info : IsSound b → FitsText text → refusal b (steps.Text (SetInfo id text)) ≡ None
      → IsSound (info_set b id text)
  sound_set_info sound fits h =
      info_sound b id text sound (good_text id text fits (accepted b (steps.Text (SetInfo id text)) h).tests.0)

  pub within_set_info : IsValid b → broken_limit (info_set b id text) ≡ None
  within_set_info v = ap broken (totals-info b id text) ∙ no_limit_of b v.limits

-- ---- the order of their causes

pub text_rises : (b : Parts) (s : TextStep) → rises 0 (texts.causes b s) ≡ true
text_rises b (SetInfo id text) = refl
