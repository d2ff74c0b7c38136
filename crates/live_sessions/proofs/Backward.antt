-- Edits in reverse order.
use Rattle.std.proofs.Common.{◌≡◌, ℕ, ◌+◌, ◌<◌, List, [], ◌∷◌, ◌++◌, length, take, get_or, reverse, ap, sym, ◌∙◌}
use Rattle.std.proofs.lemmas.List.{take_more}
use Rattle.edit_forms.specs.declared.edit.Edit.{Edit}
use Rattle.edit_script.specs.Printing.{text_of, texts_of}
use Rattle.inverse_edits.proofs.ListLaws.{reverse_push}
use Rattle.live_sessions.specs.Saved.{undo_text}

pub last_first : (all before : List Edit) (e : Edit) → all ≡ before ++ e ∷ []
    → undo_text all ≡ text_of e ++ undo_text before
last_first all before e h = ap (λ (es : List Edit). texts_of (reverse es)) h ∙ ap texts_of (reverse_push before e)

pub next_back : (es : List Edit) (m k : ℕ) (e : Edit) → m ≡ k + 1 → k < length es → e ≡ get_or es k e
    → undo_text (take m es) ≡ text_of e ++ undo_text (take k es)
next_back es m k e h within is =
    last_first (take m es) (take k es) e
    (ap (λ (n : ℕ). take n es) h ∙ take_more es k e within ∙ ap (λ (x : Edit). take k es ++ x ∷ []) (sym is))
