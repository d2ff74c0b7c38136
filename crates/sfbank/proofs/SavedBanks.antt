-- What a live session saves leads back to its first bank.
use Rattle.std.proofs.Common.{◌≡◌, List, Ok, reverse, ap, ◌∙◌}
use Rattle.bank_parts.specs.declared.parts.Parts.{Parts}
use Rattle.bank_parts.specs.Sound.{IsSound}
use Rattle.bank_format.specs.Canon.{canon}
use Rattle.bank_format.proofs.ReadValid.{read_valid, read_fits}
use Rattle.edit_forms.specs.declared.edit.Edit.{Edit}
use Rattle.bank_edits.specs.Runs.{AllAccepted, after_all, undo_list}
use Rattle.edit_script.specs.Printing.{texts_of}
use Rattle.edit_script.proofs.LineLaws.{printed_is_read}
use Rattle.inverse_edits.specs.Histories.{undo_edits}
use Rattle.live_sessions.specs.Laws.{UndoListsLeadBack}
use Rattle.sfbank.specs.Outcome.{Done, after_script, bank_in, outcome}
use Rattle.sfbank.specs.SavedBanks.{SavedUndoRestores}
use Rattle.sfbank.proofs.Restores.{all_fit, after_numbered, outcome_canon}

-- edits that a bank accepts, as a script run on the bank's file
accepted_run : (c : Parts) (es : List Edit) → IsSound c → AllAccepted c es
    → outcome (canon c) (texts_of es) ≡ Ok (record { out = canon (after_all c es); undo = texts_of (undo_list c es) })
accepted_run c es s h =
    outcome_canon c (texts_of es) s ∙ ap (after_script c) (printed_is_read es (all_fit c es h)) ∙ after_numbered c es h

pub saved_undo_restores : UndoListsLeadBack → SavedUndoRestores
saved_undo_restores ways file ts last c bytes read turns history here =
    let b : Parts = bank_in file in
    let sound : IsSound b = record { valid = read_valid file bytes read; fits = read_fits file bytes } in
    let leads_back = ways b c ts last sound turns history here in
    let back : List Edit = reverse (undo_edits last.session) in (
      texts_of (undo_list c back),
      accepted_run c back leads_back.0 leads_back.1
          ∙ ap
          (λ (end : Parts). Ok (let d : Done = record { out = canon end; undo = texts_of (undo_list c back) } in d))
          leads_back.2,
    )
