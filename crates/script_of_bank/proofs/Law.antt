-- The edits that list a sound bank lead to it from the empty bank.
use Rattle.std.proofs.Common.{◌≡◌, List, sym, subst, ◌∙◌, ap}
use Rattle.bank_parts.specs.declared.parts.Parts.{Parts}
use Rattle.bank_parts.specs.Sound.{IsSound}
use Rattle.edit_forms.specs.declared.edit.Edit.{Edit}
use Rattle.bank_edits.specs.Runs.{AllAccepted, after_all, undo_list}
use Rattle.bank_edits.proofs.RunLaw.{all_undone}
use Rattle.script_of_bank.specs.BankEdits.{empty, edits_of_bank}
use Rattle.script_of_bank.specs.LeadsTo.{Leads, GivesBank, LeadsAnywhere}
use Rattle.script_of_bank.proofs.SequenceLaws.{after-then, is_accepted-then}
use Rattle.script_of_bank.proofs.ResultLaws.{given}
use Rattle.script_of_bank.proofs.AcceptedLaws.{sound_empty, all_accepted}

pub whole : GivesBank
whole b s = record { is_accepted = all_accepted b s; given = given b s.valid.texts.engine_there }

-- the undo list of these edits leads back to the empty bank
cleared : (a : Parts) → IsSound a → Leads a (undo_list (empty a.minor) (edits_of_bank a)) (empty a.minor)
cleared a s =
    let w = whole a s in
    let back : List Edit = undo_list (empty a.minor) (edits_of_bank a) in
    let u = all_undone (empty a.minor) (edits_of_bank a) (sound_empty a s) w.is_accepted in
    record {
      is_accepted = subst (λ (c : Parts). AllAccepted c back) w.given u.is_accepted;
      given = ap (λ (c : Parts). after_all c back) (sym w.given) ∙ u.restored;
    }

pub anywhere : LeadsAnywhere
anywhere a b s r e =
    let clear = cleared a s in
    let give = whole b r in
    let back : List Edit = undo_list (empty a.minor) (edits_of_bank a) in
    let same : empty a.minor ≡ empty b.minor = ap empty e in
    let to : after_all a back ≡ empty b.minor = clear.given ∙ same in
    record {
      is_accepted = is_accepted-then a (empty b.minor) back (edits_of_bank b) to clear.is_accepted give.is_accepted;
      given = after-then a (empty b.minor) b back (edits_of_bank b) to give.given;
    }
