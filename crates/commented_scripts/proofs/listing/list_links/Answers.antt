use Rattle.script_of_bank.specs.BankEdits.{link_edits}
use Rattle.commented_scripts.proofs.ListingLaws.{listing_start, listing_step, listing_end, turns_next, turns_over}
use Rattle.commented_scripts.proofs.listing.list_links.Goals as goal

pub loop-number-init : goal.loop-number-init
loop-number-init c = listing_start _ _

pub loop-number-preserved : goal.loop-number-preserved
loop-number-preserved c =
    listing_step _ _ c.loop-number.invariant
    (turns_next link_edits c.args.samples.now c.loop-number.number _ c.loop-number-test.true
    c.index-samples-number.is)
    c.in_ok-list_link.ensures

pub returns : goal.returns
returns c =
    listing_end c.loop-number.invariant
    (turns_over link_edits c.args.samples.now c.loop-number.number c.loop-number-test.false)
