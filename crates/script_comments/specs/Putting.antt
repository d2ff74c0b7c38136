-- Items that are put one after another into an output.
use Rattle.std.specs.Prelude.{◌≡◌, ℕ, List, [], ◌∷◌, Option, true}
use Rattle.base_outputs.specs.declared.output.Output.{Output}
use Rattle.base_outputs.specs.Output.{Puts}
use Rattle.script_tokens.specs.declared.printing.Piece.{Piece}
use Rattle.script_comments.specs.declared.lead.Lead.{Lead}
use Rattle.script_comments.specs.Items.{items_text}

-- after items the comment is begun
abbrev pub lead_after : Lead → List (List Piece) → Lead
lead_after lead [] = lead
lead_after lead (item ∷ items) = record lead { is_begun = true }

-- these items are put, and the lead is that of the next item
pub record PutsItems {W : Type 0} (contents : W → Option (List ℕ)) (old new : Output W) (lead next : Lead)
    (items : List (List Piece)) : Type 0 where
  pub puts : Puts contents old new (items_text lead.is_begun lead.has_commas items)
  pub next_lead : next ≡ lead_after lead items
