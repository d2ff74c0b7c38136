-- Lines that are applied in order.
use Rattle.std.proofs.Common.{◌≡◌, List, ◌++◌, reverse}
use Rattle.bank_parts.specs.declared.parts.Parts.{Parts}
use Rattle.edit_forms.specs.declared.edit.Edit.{Edit}
use Rattle.bank_edits.specs.Runs.{after_all, undo_list}
use Rattle.edit_script.specs.declared.parsing.Line.{Line}
use Rattle.sfbank.specs.Outcome.{edits_of, first_refused}

-- The remaining lines on the bank now lead to what all lines on the first bank lead to, and the inverses so far end the
-- undo list.
pub record SoFar (first now : Parts) (lines rest : List Line) (inverses : List Edit) : Type 0 where
  pub refused : first_refused first lines ≡ first_refused now rest
  pub changed : after_all first (edits_of lines) ≡ after_all now (edits_of rest)
  pub undone : undo_list first (edits_of lines) ≡ undo_list now (edits_of rest) ++ reverse inverses

-- the same of edits alone
pub record EditsSoFar (first now : Parts) (edits rest : List Edit) (inverses : List Edit) : Type 0 where
  pub changed : after_all first edits ≡ after_all now rest
  pub undone : undo_list first edits ≡ undo_list now rest ++ reverse inverses
