-- The banks of a session whose edits are neutral: each gives notes the voices that the first bank gives.
use Rattle.std.proofs.Common.{◌≡◌, ℕ, zero, suc, ◌+◌, true, List, [], ◌∷◌, ◌++◌, take, Option, Some, slice_get, sym, subst}
use Rattle.std.specs.List.{AllByRecursion}
use Rattle.std.specs.Option.{option_map_or}
use Rattle.std.proofs.lemmas.List.Sorted.{IsPermutation-sym}
use Rattle.bank_parts.specs.declared.parts.Parts.{Parts}
use Rattle.bank_parts.specs.Sound.{IsSound}
use Rattle.bank_edits.proofs.Law.{undone}
use Rattle.edit_forms.specs.declared.edit.Edit.{Edit}
use Rattle.edit_refusals.specs.Edits.{raw}
use Rattle.inverse_edits.specs.Histories.{History, bank_now, IsEdited, MovesForward}
use Rattle.mixer.specs.Alike.{LeaveAlike}
use Rattle.mixer.specs.Pressed.{KeyEvent, Edited, Started, Pressed, Released, Stopped, Given, as_notes}
use Rattle.mixer.proofs.AlikeLaws.{AreAlike-trans}
use Rattle.sound_neutral_edits.specs.Neutral.{is_neutral}
use Rattle.sound_neutral_edits.proofs.FormLaws.{neutral_alike}
use Rattle.zone_select.specs.Alike.{AreAlike}
use Rattle.zone_select.specs.Select.{selected}
use Rattle.live_sessions.specs.declared.held.HeldNote.{HeldNote}
use Rattle.live_sessions.specs.Steps.{each_released}

-- a sound bank with the voices of the first one
abbrev pub IsKept : Parts → Parts → Type 0
IsKept first c = IsSound c × AreAlike first c

abbrev pub AreKept : Parts → List Parts → Type 0
AreKept first banks = AllByRecursion (IsKept first) banks

-- each edit leads to a bank with the voices of the first one
abbrev pub EditsKeep : Parts → List KeyEvent → Type 0
EditsKeep first [] = Unit {0}
EditsKeep first (Edited c ∷ es) = AreAlike first c × EditsKeep first es
EditsKeep first (Started n ∷ es) = EditsKeep first es
EditsKeep first (Pressed h n ∷ es) = EditsKeep first es
EditsKeep first (Released r ∷ es) = EditsKeep first es
EditsKeep first (Stopped ∷ es) = EditsKeep first es
EditsKeep first (Given m ∷ es) = EditsKeep first es

-- ---- lists

kept_at : (first : Parts) (banks : List Parts) (k : ℕ) (c : Parts) → AreKept first banks → slice_get banks k ≡ Some c
    → IsKept first c
kept_at first [] k c h e = absurd cc
kept_at first (b ∷ banks) zero c h e = subst (IsKept first) (let same : b ≡ c = cc in same) h.0
kept_at first (b ∷ banks) (suc k) c h e = kept_at first banks k c h.1 e

kept_before : (first : Parts) (banks : List Parts) (k : ℕ) → AreKept first banks → AreKept first (take k banks)
kept_before first banks zero h = tt
kept_before first [] (suc k) h = tt
kept_before first (b ∷ banks) (suc k) h = (h.0, kept_before first banks k h.1)

kept_and : (first : Parts) (banks : List Parts) (c : Parts) → AreKept first banks → IsKept first c
    → AreKept first (banks ++ c ∷ [])
kept_and first [] c h k = (k, tt)
kept_and first (b ∷ banks) c h k = (h.0, kept_and first banks c h.1 k)

pub edits_keep_both : (first : Parts) (es fs : List KeyEvent) → EditsKeep first es → EditsKeep first fs
    → EditsKeep first (es ++ fs)
edits_keep_both first [] fs h k = k
edits_keep_both first (Edited c ∷ es) fs h k = (h.0, edits_keep_both first es fs h.1 k)
edits_keep_both first (Started n ∷ es) fs h k = edits_keep_both first es fs h k
edits_keep_both first (Pressed g n ∷ es) fs h k = edits_keep_both first es fs h k
edits_keep_both first (Released r ∷ es) fs h k = edits_keep_both first es fs h k
edits_keep_both first (Stopped ∷ es) fs h k = edits_keep_both first es fs h k
edits_keep_both first (Given m ∷ es) fs h k = edits_keep_both first es fs h k

pub releases_keep : (first : Parts) (hs : List HeldNote) → EditsKeep first (each_released hs)
releases_keep first [] = tt
releases_keep first (h ∷ hs) = releases_keep first hs

-- ---- one edit

-- a change of the bank, after which all banks of the history are kept
pub change_keeps : (first : Parts) (new : History) (c : Parts) → bank_now new ≡ Some c → AreKept first new.banks
    → EditsKeep first (option_map_or (λ (b : Parts). Edited b ∷ []) (bank_now new) [])
change_keeps first new c here kept =
    let there : AreAlike first c = (kept_at first new.banks new.index c kept here).1 in
    let only : EditsKeep first (Edited c ∷ []) = (there, tt) in
    subst (λ (o : Option Parts). EditsKeep first (option_map_or (λ (b : Parts). Edited b ∷ []) o [])) (sym here) only

pub edit_keeps : (first : Parts) (old new : History) (e : Edit) → is_neutral e ≡ true → IsEdited old new e
    → AreKept first old.banks → AreKept first new.banks
edit_keeps first old new e neutral h kept =
    let here : IsKept first h.bank = kept_at first old.banks old.index h.bank kept h.here in
    let next : IsKept first (raw h.bank e) = (
      (undone h.bank e here.0 h.accepted).sound,
      AreAlike-trans first h.bank (raw h.bank e) here.1 (neutral_alike h.bank e here.0 h.accepted neutral),
    ) in
    subst (λ (s : History). AreKept first s.banks) (sym h.changed)
    (kept_and first (take (old.index + 1) old.banks) (raw h.bank e) (kept_before first old.banks (old.index + 1) kept) next)

pub undo_keeps : (first : Parts) (old new : History) → MovesForward new old → AreKept first old.banks
    → AreKept first new.banks
undo_keeps first old new h kept = subst (λ (s : History). AreKept first s.banks) h.moved kept

pub redo_keeps : (first : Parts) (old new : History) → MovesForward old new → AreKept first old.banks
    → AreKept first new.banks
redo_keeps first old new h kept = subst (λ (s : History). AreKept first s.banks) (sym h.moved) kept

pub kept_now : (first : Parts) (h : History) (c : Parts) → AreKept first h.banks → bank_now h ≡ Some c → IsKept first c
kept_now first h c kept here = kept_at first h.banks h.index c kept here

-- ---- all events

pub alike_back : (b c : Parts) → AreAlike b c → AreAlike c b
alike_back b c h n = IsPermutation-sym (selected b n) (selected c n) (h n)

-- the notes of the events, from a bank with the voices of the first one
pub leave_alike : (first b : Parts) (es : List KeyEvent) → AreAlike first b → EditsKeep first es
    → LeaveAlike b (as_notes es)
unfolding as_notes
leave_alike first b [] a h = tt
leave_alike first b (Edited c ∷ es) a h =
    (AreAlike-trans b first c (alike_back first b a) h.0, leave_alike first c es h.0 h.1)
leave_alike first b (Started n ∷ es) a h = leave_alike first b es a h
leave_alike first b (Pressed g n ∷ es) a h = leave_alike first b es a h
leave_alike first b (Released r ∷ es) a h = leave_alike first b es a h
leave_alike first b (Stopped ∷ es) a h = tt
leave_alike first b (Given m ∷ es) a h = leave_alike first b es a h
