use Rattle.std.proofs.Common.{drop}
use Rattle.script_of_bank.specs.BankEdits.{in_turn}
use Rattle.commented_scripts.proofs.ListingLaws.{Listing}
use Rattle.commented_scripts.proofs.owners.list_owners.Given as goal

-- the edits of the remaining owners are still to be listed
abbrev pub invariant-loop-number : goal.invariant-loop-number
invariant-loop-number g l =
    Listing l.fn.edits.items l.edits.items (in_turn g.H.AddedHead.edits 0 l.owners)
    (in_turn g.H.AddedHead.edits l.number (drop l.number l.owners))
