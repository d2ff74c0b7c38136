-- Undo restores the bank, for the form that edits a text.
use Rattle.std.proofs.Common.{ℕ, List, refl, ap}
use Rattle.bank_parts.specs.declared.texts.Texts.{Texts}
use Rattle.bank_parts.specs.declared.texts.InfoId.{InfoId}
use Rattle.bank_parts.specs.declared.parts.Parts.{Parts}
use Rattle.bank_parts.specs.Texts.{text_of}
use Rattle.bank_parts.specs.Sound.{IsSound}
use Rattle.bank_changes.proofs.TextLaws.{info_of, text_fits, text_of-set, text_set-back}
use Rattle.edit_forms.specs.declared.texts.TextStep.TheVariants.{SetInfo}
use Rattle.edit_forms.specs.declared.step.Step.TheVariants as steps
use Rattle.edit_refusals.proofs.TextLaws.{sound_set_info, not_bad}
use Rattle.bank_edits.proofs.UndoneBy.{IsAccepted, IsUndone, undone_by}
use Rattle.edit_forms.specs.declared.texts.TextStep.{TextStep}

-- ---- set-info

pub undone_set_info : (b : Parts) (id : InfoId) (text : List ℕ) → IsSound b
    → IsAccepted b (steps.Text (SetInfo id text)) → IsUndone b (steps.Text (SetInfo id text))
undone_set_info b id text s t =
    let was = info_of b.texts id s.valid.texts in
    undone_by b (steps.Text (SetInfo id text)) (steps.Text (SetInfo id (text_of b.texts id))) s (record {
      is = refl;
      sound = sound_set_info b id text s t.fits t.accepted;
      fits = text_fits (text_of b.texts id) was.fits;
      tests = (not_bad id (text_of b.texts id) was, tt);
      restored = ap (λ (texts : Texts). record b { texts = texts }) (text_set-back b.texts id text);
      redone = ap (λ (old : List ℕ). steps.Text (SetInfo id old)) (text_of-set b.texts id text);
    })

-- ---- all these forms

pub undone_text : (b : Parts) (s : TextStep) → IsSound b → IsAccepted b (steps.Text s) → IsUndone b (steps.Text s)
undone_text b (SetInfo id text) = undone_set_info b id text
