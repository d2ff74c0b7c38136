use Rattle.std.proofs.Common.{drop}
use Rattle.script_of_bank.specs.BankEdits.{in_turn}
use Rattle.script_of_bank.specs.BankScript.{selected_edits}
use Rattle.commented_scripts.proofs.ListingLaws.{Listing}
use Rattle.commented_scripts.proofs.listing.list_samples.Given as goal

-- the edits of the remaining samples are still to be listed
abbrev pub invariant-loop-number : goal.invariant-loop-number
invariant-loop-number l =
    Listing l.fn.edits.items l.edits.items (in_turn (selected_edits l.points) 0 l.samples)
    (in_turn (selected_edits l.points) l.number (drop l.number l.samples))
