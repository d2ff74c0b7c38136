-- Undo, redo and edit on a bank with undo and redo lists (whose last edits are next) agree with the history.
use Rattle.std.proofs.Common.{◌≡◌, List, [], ◌∷◌, reverse, refl, sym, subst, ◌∙◌, ap, arith, OnOk, IfErr}
use Rattle.std.specs.Prelude.{Result, Ok, Err}
use Rattle.std.proofs.lemmas.Grind.{common_steps}
use Rattle.bank_parts.specs.declared.parts.Parts.{Parts}
use Rattle.bank_parts.specs.Sound.{IsSound}
use Rattle.edit_forms.specs.declared.edit.Edit.{Edit}
use Rattle.edit_refusals.specs.declared.refusal.Refusal.{Refusal}
use Rattle.edit_refusals.specs.declared.refusal.Refusal.TheVariants.{Of, OutOfMemory, NothingToUndo, NothingToRedo}
use Rattle.edit_refusals.specs.declared.refusal.Refusal.TheVariants.{GroupRefused}
use Rattle.edit_refusals.specs.Edits.{raw}
use Rattle.bank_edits.specs.EditChanges.{inverse}
use Rattle.bank_edits.specs.Undone.{IsUndone}
use Rattle.bank_edits.specs.Runs.{AllAccepted}
use Rattle.bank_edits.proofs.Law.{undone}
use Rattle.inverse_edits.specs.UndoRedo.{IsApplyLast, IsLastApplied, IsEditApplied, IsReason}
use Rattle.inverse_edits.specs.Histories.{history_of, MovesForward, IsUndoFailure, IsRedoFailure, IsEdited, IsRefusalNow}
use Rattle.inverse_edits.proofs.ListLaws.{reverse_push}
use Rattle.inverse_edits.proofs.HistoryLaws.{forth, edit_done, bank_total, bank_now_is}

-- the invariant of a session
pub record Keeps (b : Parts) (undos next : List Edit) : Type 0 where
  pub sound : IsSound b
  pub back : AllAccepted b undos
  pub forth : AllAccepted b next

inverse_accepted : (b : Parts) (e : Edit) (others : List Edit) → IsUndone b e → AllAccepted b others
    → AllAccepted (raw b e) (inverse b e ∷ others)
inverse_accepted b e others u t = (u.is_accepted, subst (λ (c : Parts). AllAccepted c others) (sym u.restored) t)

module _ (old new : Parts) (f f' t t' : List Edit) (s : IsSound old) (from : AllAccepted old (reverse f)) where
  -- what a successful undo or redo implies about the reversed lists
  record Done (d : IsLastApplied old new f f' t t') : Type 0 where
    from_is : reverse f ≡ d.edit ∷ reverse f'
    to_is : reverse t' ≡ inverse old d.edit ∷ reverse t
    rest : AllAccepted (raw old d.edit) (reverse f')
    undone_is : IsUndone old d.edit

  done : (d : IsLastApplied old new f f' t t') → Done d
  done d =
      let from_is : reverse f ≡ d.edit ∷ reverse f' = ap reverse d.last ∙ reverse_push f' d.edit in
      let is_accepted : AllAccepted old (d.edit ∷ reverse f') = subst (AllAccepted old) from_is from in
      record {
        from_is =
            from_is;
        to_is =
            ap reverse d.back ∙ reverse_push t (inverse old d.edit);
        rest =
            is_accepted.1;
        undone_is = undone old d.edit s is_accepted.0;
      }

  pub step_keeps : (at_end : Refusal) (r : Result (Unit {0}) Refusal) → IsApplyLast old new f f' t t' at_end r
      → AllAccepted old (reverse t)
      → Keeps new (reverse f') (reverse t')
  step_keeps at_end (Ok u) d to =
      let h = done d in
      let there : Keeps (raw old d.edit) (reverse f') (inverse old d.edit ∷ reverse t)
      = record { sound = h.undone_is.sound; back = h.rest; forth = inverse_accepted old d.edit (reverse t) h.undone_is to } in
      subst (λ (b : Parts). Keeps b (reverse f') (reverse t')) (sym d.changed)
      (subst (Keeps (raw old d.edit) (reverse f')) (sym h.to_is) there)
  step_keeps at_end (Err why) d to = rw (d.0.bank, d.0.from, d.0.to) (record { sound = s; back = from; forth = to })

  pub step_back : (at_end : Refusal) (r : Result (Unit {0}) Refusal) → IsApplyLast old new f f' t t' at_end r
      → OnOk r (MovesForward (history_of new (reverse f') (reverse t')) (history_of old (reverse f) (reverse t)))
  step_back at_end (Ok u) d =
      let h = done d in
      let there =
      forth (raw old d.edit) old (inverse old d.edit) d.edit (reverse f') (reverse t) refl refl
      h.undone_is.restored in
      rw (h.from_is, h.to_is, d.changed) there
  step_back at_end (Err x) d = tt

  pub step_forth : (at_end : Refusal) (r : Result (Unit {0}) Refusal) → IsApplyLast old new f f' t t' at_end r
      → OnOk r (MovesForward (history_of old (reverse t) (reverse f)) (history_of new (reverse t') (reverse f')))
  step_forth at_end (Ok u) d =
      let h = done d in
      let there =
      forth old (raw old d.edit) d.edit (inverse old d.edit) (reverse t) (reverse f') h.undone_is.restored
      h.undone_is.redone refl in
      rw (h.from_is, h.to_is, d.changed) there
  step_forth at_end (Err x) d = tt

pub redo_failure : (old new : Parts) (f f' t t' : List Edit) (r : Result (Unit {0}) Refusal)
    → IsApplyLast old new f f' t t' NothingToRedo r
    → IfErr r (IsRedoFailure (history_of old (reverse t) (reverse f)))
redo_failure old new f f' t t' (Ok u) d = tt
redo_failure old new [] f' t t' (Err why) d = rw d.1 (grind (arith, common_steps, bank_total old (reverse t) []))
redo_failure old new (e ∷ f) f' t t' (Err why) d =
    rw d.1 (grind (arith, common_steps, bank_total old (reverse t) (reverse (e ∷ f))))

pub undo_failure : (old new : Parts) (f f' t t' : List Edit) (r : Result (Unit {0}) Refusal)
    → IsApplyLast old new f f' t t' NothingToUndo r
    → IfErr r (IsUndoFailure (history_of old (reverse f) (reverse t)))
undo_failure old new f f' t t' (Ok u) d = tt
undo_failure old new [] f' t t' (Err why) d = rw d.1 refl
undo_failure old new (e ∷ f) f' t t' (Err why) d = rw d.1 (grind (arith, common_steps))

module _ (old new : Parts) (was now : List Edit) (e : Edit) (d : IsEditApplied old new was now e) (s : IsSound old) where
  last : reverse now ≡ inverse old e ∷ reverse was
  last = ap reverse d.back ∙ reverse_push was (inverse old e)

  undone_is : IsUndone old e
  undone_is = undone old e s (record { fits = d.fits; accepted = d.accepted })

  pub edit_keeps : AllAccepted old (reverse was) → Keeps new (reverse now) []
  edit_keeps back =
      let there : Keeps (raw old e) (inverse old e ∷ reverse was) [] =
      record { sound = undone_is.sound; back = inverse_accepted old e (reverse was) undone_is back; forth = tt } in
      subst (λ (b : Parts). Keeps b (reverse now) []) (sym d.changed)
      (subst (λ (l : List Edit). Keeps (raw old e) l []) (sym last) there)

  pub edit_history : (next : List Edit)
      → IsEdited (history_of old (reverse was) next) (history_of new (reverse now) []) e
  edit_history next =
      let there =
      edit_done old (raw old e) e (inverse old e) (reverse was) next undone_is.restored undone_is.redone next in
      record {
        bank =
            old;
        here = bank_now_is old (reverse was) next;
        accepted = record { fits = d.fits; accepted = d.accepted };
        changed = rw (last, d.changed) there;
      }

pub why_refused : (b : Parts) (undos next : List Edit) (e : Edit) (why : Refusal) → IsReason b e why
    → IsRefusalNow (history_of b undos next) e why
why_refused b undos next e OutOfMemory w = tt
why_refused b undos next e (Of cause) w = rw (bank_now_is b undos next) w
why_refused b undos next e NothingToUndo w = rw (bank_now_is b undos next) w
why_refused b undos next e NothingToRedo w = rw (bank_now_is b undos next) w
why_refused b undos next e (GroupRefused index cause) w = rw (bank_now_is b undos next) w
