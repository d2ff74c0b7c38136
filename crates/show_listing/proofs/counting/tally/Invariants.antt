use Rattle.show_listing.proofs.CountLaws.{Counts}
use Rattle.show_listing.proofs.counting.tally.Given as goal

-- the numbers so far are counted
abbrev pub invariant-loop-number : goal.invariant-loop-number
invariant-loop-number l = Counts l.members l.numbers l.number-index l.counts.items
