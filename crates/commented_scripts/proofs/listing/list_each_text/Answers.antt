use Rattle.std.proofs.Common.{ap}
use Rattle.std.specs.List.{flat_map}
use Rattle.std.proofs.lemmas.List.{drop_all}
use Rattle.commented_scripts.proofs.ListingLaws.{listing_start, listing_end, edits_of_text, text_listed}
use Rattle.commented_scripts.proofs.listing.list_each_text.Goals as goal

pub loop-id-init : goal.loop-id-init
loop-id-init c = listing_start _ _

pub loop-id-preserved : goal.loop-id-preserved
loop-id-preserved c =
    text_listed c.args.bank.now.texts c.args.ids.now c.loop-id.id-index _ _ c.loop-id.invariant c.loop-id-test.true
    c.info.ensures.value c.in_ok-list_text.ensures

pub returns : goal.returns
returns c =
    listing_end c.loop-id.invariant
    (ap (flat_map (edits_of_text c.args.bank.now.texts))
    (drop_all c.loop-id.id-index c.args.ids.now c.loop-id-test.false))
