-- The result of applying a neutral edit.
use Rattle.std.proofs.Common.{◌≡◌, true, List, Result, Ok, Err, sym, subst}
use Rattle.std.specs.Prelude.{MatchResult, OnOk, IfOk}
use Rattle.bank_parts.specs.declared.parts.Parts.{Parts}
use Rattle.bank_parts.specs.Sound.{IsSound}
use Rattle.script_notes.specs.Notes.{Numbers}
use Rattle.edit_forms.specs.declared.edit.Edit.{Edit}
use Rattle.edit_forms.specs.Fits.{FitsEdit}
use Rattle.edit_refusals.specs.declared.refusal.Refusal.{Refusal}
use Rattle.bank_edits.specs.EditChanges.{IsDone, IsRefused}
use Rattle.bank_edits.specs.Undone.{IsAccepted}
use Rattle.zone_select.specs.Alike.{AreAlike, HavePairsAlike}
use Rattle.mixer.specs.Render.{render}
use Rattle.sound_neutral_edits.specs.Neutral.{is_neutral}
use Rattle.sound_neutral_edits.proofs.FormLaws.{neutral_alike, neutral_pairs}
use Rattle.sound_neutral_edits.proofs.UndoneLaws.{neutral_back}
use Rattle.sound_neutral_edits.proofs.EventLaws.{neutral_render}

abbrev Outcome : Parts → Parts → Edit → Result Edit (Refusal × Edit) → Type 0
Outcome b c e r = MatchResult r (λ back. IsDone b c e back) (λ refused. IsRefused b c e refused.0 refused.1)

is_accepted : (b c : Parts) (e back : Edit) → FitsEdit e → IsDone b c e back → IsAccepted b e
is_accepted b c e back fits d = record { fits = fits; accepted = d.accepted }

pub done_alike : (b c : Parts) (e : Edit) (r : Result Edit (Refusal × Edit)) → IsSound b → FitsEdit e
    → is_neutral e ≡ true → Outcome b c e r → OnOk r (AreAlike b c)
done_alike b c e (Ok back) sound fits n d =
    subst (AreAlike b) (sym d.changed) (neutral_alike b e sound (is_accepted b c e back fits d) n)
done_alike b c e (Err refused) sound fits n d = tt

pub done_pairs : (b c : Parts) (e : Edit) (r : Result Edit (Refusal × Edit)) → IsSound b → FitsEdit e
    → is_neutral e ≡ true → Outcome b c e r → OnOk r (HavePairsAlike b c)
done_pairs b c e (Ok back) sound fits n d =
    subst (HavePairsAlike b) (sym d.changed) (neutral_pairs b e sound (is_accepted b c e back fits d) n)
done_pairs b c e (Err refused) sound fits n d = tt

pub done_same : (b c : Parts) (e : Edit) (r : Result Edit (Refusal × Edit)) → IsSound b → FitsEdit e
    → is_neutral e ≡ true → Outcome b c e r
    → OnOk r ((ns : List Numbers) → render c ns ≡ render b ns)
done_same b c e (Ok back) sound fits n d =
    subst (λ (x : Parts). (ns : List Numbers) → render x ns ≡ render b ns) (sym d.changed)
    (neutral_render b e sound (is_accepted b c e back fits d) n)
done_same b c e (Err refused) sound fits n d = tt

pub done_back : (b c : Parts) (e : Edit) (r : Result Edit (Refusal × Edit)) → is_neutral e ≡ true → Outcome b c e r
    → IfOk r (λ back. is_neutral back ≡ true)
done_back b c e (Ok back) n d = subst (λ (x : Edit). is_neutral x ≡ true) (sym d.back_is_inverse) (neutral_back b e n)
done_back b c e (Err refused) n d = tt
