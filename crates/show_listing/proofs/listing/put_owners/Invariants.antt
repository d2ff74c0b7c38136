use Rattle.std.proofs.Common.{drop}
use Rattle.std.specs.Option.{option_copied}
use Rattle.base_outputs.proofs.OutputLaws.{Putting}
use Rattle.show_listing.specs.Listing.{lines_from}
use Rattle.show_listing.specs.Details.{owner_lines}
use Rattle.show_listing.proofs.listing.put_owners.Given as goal

-- the lines of the remaining owners are still to be written
abbrev pub invariant-loop-number : goal.invariant-loop-number
invariant-loop-number g l =
    Putting g.W.Write.contents l.initial.output l.output
    (lines_from (owner_lines g.H.ListedHead.line g.H.ListedHead.word (option_copied l.uses) l.zones) 0 l.owners)
    (lines_from (owner_lines g.H.ListedHead.line g.H.ListedHead.word (option_copied l.uses) l.zones) l.number
    (drop l.number l.owners))
