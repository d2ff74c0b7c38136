use Rattle.std.proofs.Common.{drop}
use Rattle.std.specs.List.{flat_map}
use Rattle.commented_scripts.proofs.ListingLaws.{Listing, edits_of_text}
use Rattle.commented_scripts.proofs.listing.list_each_text.Given as goal

-- the edits of the remaining texts are still to be listed
abbrev pub invariant-loop-id : goal.invariant-loop-id
invariant-loop-id l =
    Listing l.fn.edits.items l.edits.items (flat_map (edits_of_text l.bank.texts) l.ids)
    (flat_map (edits_of_text l.bank.texts) (drop l.id-index l.ids))
