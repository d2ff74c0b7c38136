-- Neutral edits of a draft.
use Rattle.std.specs.Prelude.{◌≡◌, true, List}
use Rattle.std.specs.List.{AllByRecursion}
use Rattle.edit_forms.specs.declared.edit.Edit.{Edit}
use Rattle.zone_select.specs.Alike.{AreAlike}
use Rattle.sound_neutral_edits.specs.Neutral.{is_neutral}
use Rattle.edit_drafts.specs.Drafts.{Drafted}

-- each of the edits is neutral
abbrev pub AreNeutral : List Edit → Type 0
AreNeutral es = AllByRecursion (λ e. is_neutral e ≡ true) es

-- Only neutral edits are added to a draft. Each note has the same voices before and after, in some order.
pub record AddsNeutralEdits (old new : Drafted) : Type 0 where
  pub first : new.first ≡ old.first
  pub alike : AreAlike old.bank new.bank
  pub neutral : AreNeutral old.edits → AreNeutral new.edits
