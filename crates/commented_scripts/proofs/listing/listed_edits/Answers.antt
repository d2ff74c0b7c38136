use Rattle.commented_scripts.proofs.ListingLaws.{all_listed}
use Rattle.commented_scripts.proofs.listing.listed_edits.Goals as goal

pub returns : goal.returns
returns c =
    all_listed c.args.points c.args.bank.now c.new-edits.ensures.items c.in_ok-list_texts.ensures
    c.samples.ensures.value c.in_ok-list_samples.ensures c.samples-2.ensures.value c.in_ok-list_links.ensures
    c.instruments.ensures.value
    c.in_ok-list_owners.ensures c.presets.ensures.value c.in_ok-list_owners-2.ensures
