-- The undo list leads to the first bank.
use Rattle.std.proofs.Common.{◌≡◌, ℕ, zero, suc, List, [], ◌∷◌, ◌++◌, map, take, reverse, Some, slice_get, refl, sym}
use Rattle.std.proofs.Common.{ap, subst, ◌∙◌}
use Rattle.std.specs.Prelude.{zip}
use Rattle.bank_parts.specs.declared.parts.Parts.{Parts}
use Rattle.bank_parts.specs.Sound.{IsSound}
use Rattle.edit_forms.specs.declared.edit.Edit.{Edit}
use Rattle.bank_edits.specs.EditChanges.{inverse}
use Rattle.bank_edits.specs.Runs.{AllAccepted, after_all, undo_list, AreUndone}
use Rattle.bank_edits.proofs.RunLaw.{all_undone}
use Rattle.inverse_edits.specs.Histories.{Follow, AreLinked, IsHistory, bank_now, undo_edits}
use Rattle.inverse_edits.proofs.ListLaws.{reverse_cons}
use Rattle.live_sessions.specs.declared.live.LiveState.{LiveState}
use Rattle.live_sessions.specs.Steps.{started_with}
use Rattle.live_sessions.specs.Turns.{Turn, AreTurns}
use Rattle.live_sessions.proofs.FrameLaws.{first_stays}

abbrev back_to : List Parts → List Edit → ℕ → List Edit
back_to banks edits index = map (λ (step : Parts × Edit). inverse step.0 step.1) (take index (zip banks edits))

-- the edits up to a position are accepted, and lead to the bank there; the undo list undoes them
record Led (b : Parts) (banks : List Parts) (edits : List Edit) (index : ℕ) (c : Parts) : Type 0 where
  bank : c ≡ after_all b (take index edits)
  is_accepted : AllAccepted b (take index edits)
  back : reverse (back_to (b ∷ banks) edits index) ≡ undo_list b (take index edits)

led : (index : ℕ) (b : Parts) (banks : List Parts) (edits : List Edit) (c : Parts) → Follow b banks edits
    → slice_get (b ∷ banks) index ≡ Some c → Led b banks edits index c
led zero b banks edits c f h = record { bank = cc; is_accepted = tt; back = refl }
led (suc p) b [] edits c f h = absurd cc
led (suc p) b (d ∷ banks) [] c f h = absurd f
led (suc p) b (d ∷ banks) (e ∷ edits) c f h =
    let k : Led d banks edits p c = led p d banks edits c f.2 h in
    record {
      bank = k.bank ∙ ap (λ (x : Parts). after_all x (take p edits)) f.1;
      is_accepted = (f.0, subst (λ (x : Parts). AllAccepted x (take p edits)) f.1 k.is_accepted);
      back = reverse_cons (back_to (d ∷ banks) edits p) (inverse b e)
          ∙ ap (λ (es : List Edit). es ++ inverse b e ∷ [])
          (k.back ∙ ap (λ (x : Parts). undo_list x (take p edits)) f.1);
    }

led_back : (banks : List Parts) (edits : List Edit) (index : ℕ) (b c : Parts) → AreLinked banks edits → IsSound b
    → slice_get banks 0 ≡ Some b → slice_get banks index ≡ Some c
    → IsSound c × AllAccepted c (reverse (back_to banks edits index))
    × (after_all c (reverse (back_to banks edits index)) ≡ b)
led_back [] edits index b c f sound first here = absurd cc
led_back (x ∷ banks) edits index b c f sound first here =
    let same : x ≡ b = cc in
    let k : Led x banks edits index c = led index x banks edits c f here in
    let es : List Edit = take index edits in
    let undone : AreUndone x es = all_undone x es (subst IsSound (sym same) sound) k.is_accepted in
    let T : Parts → Type 0 = λ y. IsSound y × AllAccepted y (undo_list x es) × (after_all y (undo_list x es) ≡ b) in
    let U : List Edit → Type 0 = λ us. IsSound c × AllAccepted c us × (after_all c us ≡ b) in
    subst U (sym k.back) (subst T (sym k.bank) (undone.sound, undone.is_accepted, undone.restored ∙ same))

pub undo_lists_lead_back : (b c : Parts) (ts : List Turn) (last : LiveState) → IsSound b → AreTurns (started_with b) ts last
    → IsHistory last.session → bank_now last.session ≡ Some c
    → IsSound c × AllAccepted c (reverse (undo_edits last.session)) × (after_all c (reverse (undo_edits last.session)) ≡ b)
undo_lists_lead_back b c ts last sound h is here =
    led_back last.session.banks last.session.edits last.session.index b c is.linked sound
    (first_stays ts (started_with b) last b refl h) here
