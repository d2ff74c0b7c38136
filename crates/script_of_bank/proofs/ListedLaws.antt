-- A bank's text is read as the edits that list it, with or without points.
use Rattle.std.proofs.Common.{◌≡◌, ◌++◌, ℕ, suc, List, [], ◌∷◌, map, codes, drop, Ok, refl, subst, ap, sym}
use Rattle.std.specs.List.{AllByRecursion}
use Rattle.bank_parts.specs.declared.parts.Sample.{Sample}
use Rattle.bank_parts.specs.declared.parts.Parts.{Parts}
use Rattle.bank_parts.specs.Sound.{IsSound}
use Rattle.edit_forms.specs.declared.edit.Edit.{Edit}
use Rattle.script_tokens.specs.declared.printing.Piece.TheVariants.{Number, Word}
use Rattle.script_tokens.proofs.PieceLaws.{printable_number, printable_word}
use Rattle.edit_script.specs.Script.{script_of}
use Rattle.edit_script.specs.Printing.{AllFit, numbered}
use Rattle.edit_script.proofs.LineLaws.{printed_after_comment}
use Rattle.script_of_bank.specs.declared.samples.SamplePoints.TheVariants.{Kept, LeftOut}
use Rattle.script_of_bank.specs.BankEdits.{empty, edits_of_bank, in_turn, instrument_edits, link_edits, preset_edits}
use Rattle.script_of_bank.specs.BankEdits.{sample_edits, texts_edits}
use Rattle.script_of_bank.specs.BankScript.{TextListsEdits, bank_script, first_line, selected_sample, with_points}
use Rattle.script_of_bank.proofs.Law.{whole}
use Rattle.script_of_bank.proofs.PrintedLaws.{accepted_fit, small, text_read}
use Rattle.script_of_bank.proofs.TextLaws.{link_turns}

-- ---- two lists of edits that fit

front_fits : (es fs : List Edit) → AllFit (es ++ fs) → AllFit es
front_fits [] fs h = tt
front_fits (e ∷ es) fs h = (h.0, front_fits es fs h.1)

rest_fits : (es fs : List Edit) → AllFit (es ++ fs) → AllFit fs
rest_fits [] fs h = h
rest_fits (e ∷ es) fs h = rest_fits es fs h.1

both_fit : (es fs : List Edit) → AllFit es → AllFit fs → AllFit (es ++ fs)
both_fit [] fs h k = k
both_fit (e ∷ es) fs h k = (h.0, both_fit es fs h.1 k)

-- ---- samples without points

bare : List Sample → List Sample
bare ss = map (selected_sample LeftOut) ss

samples_fit : (n : ℕ) (ss : List Sample) → AllFit (in_turn sample_edits n ss) → AllFit (in_turn sample_edits n (bare ss))
unfolding bare
samples_fit n [] h = tt
samples_fit n (s ∷ ss) h =
    let fits = h.0.1 in (
      (
        h.0.0,
        record {
          name = fits.name;
          points = tt;
          looped = fits.looped;
          rate = fits.rate;
          key = fits.key;
          correction = fits.correction;
          kind = fits.kind;
        },
      ),
      samples_fit (suc n) ss h.1,
    )

bare_fit : (b : Parts) → AllFit (edits_of_bank b) → AllFit (edits_of_bank (with_points LeftOut b))
unfolding bare
bare_fit b h =
    let texts = texts_edits b.texts in
    let samples = in_turn sample_edits 0 b.samples in
    let links = in_turn link_edits 0 b.samples in
    let owners = in_turn instrument_edits 0 b.instruments ++ in_turn preset_edits 0 b.presets in
    let after_texts : AllFit (samples ++ (links ++ owners)) = rest_fits texts (samples ++ (links ++ owners)) h in
    let after_samples : AllFit (links ++ owners) = rest_fits samples (links ++ owners) after_texts in
    both_fit texts (in_turn sample_edits 0 (bare b.samples) ++ (in_turn link_edits 0 (bare b.samples) ++ owners))
    (front_fits texts (samples ++ (links ++ owners)) h)
    (both_fit (in_turn sample_edits 0 (bare b.samples)) (in_turn link_edits 0 (bare b.samples) ++ owners)
    (samples_fit 0 b.samples (front_fits samples (links ++ owners) after_texts))
    (subst (λ (es : List Edit). AllFit (es ++ owners)) (link_turns LeftOut 0 b.samples) after_samples))

-- ---- the text

bare_read : (b : Parts) → IsSound b
    → script_of (bank_script LeftOut b) ≡ Ok (numbered 2 (edits_of_bank (with_points LeftOut b)))
unfolding bank_script first_line
bare_read b s =
    printed_after_comment (drop 1 (codes "# sfbank new --minor"))
    (Number b.minor ∷ Word (codes "without") ∷ Word (codes "points") ∷ []) (edits_of_bank (with_points LeftOut b)) refl
    (printable_number b.minor (small b s), (printable_word (codes "without") refl refl, (printable_word (codes "points") refl refl, tt)))
    (bare_fit b (accepted_fit (empty b.minor) (edits_of_bank b) (whole b s).is_accepted))

pub text_lists : TextListsEdits
text_lists Kept b s = text_read b s
text_lists LeftOut b s = bare_read b s
