-- A bank without what it doesn't use.
use Rattle.std.specs.Prelude.{◌≡◌, List}
use Rattle.bank_parts.specs.declared.parts.Parts.{Parts}
use Rattle.script_notes.specs.Notes.{Numbers}
use Rattle.mixer.specs.Render.{render}
use Rattle.edit_forms.specs.declared.edit.Edit.{Edit}
use Rattle.bank_edits.specs.Runs.{AllAccepted, after_all}
use Rattle.plan_edits.specs.Uses.{HasNoUnused}
use Rattle.plan_edits.specs.NeutralRuns.{AreNeutral}

-- The edits are neutral, and accepted in order. Afterwards all notes render as before, and no instrument or sample is
-- unused.
pub record IsTidying (b : Parts) (edits : List Edit) : Type 0 where
  pub is_accepted : AllAccepted b edits
  pub neutral : AreNeutral edits
  pub same : (ns : List Numbers) → render b ns ≡ render (after_all b edits) ns
  pub used : HasNoUnused (after_all b edits)
