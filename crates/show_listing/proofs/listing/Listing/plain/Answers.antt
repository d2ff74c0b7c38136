use Rattle.std.proofs.Common.{sym}
use Rattle.show_listing.proofs.PlainLaws.{plain}
use Rattle.show_listing.proofs.listing.Listing.plain.Goals as goal

pub returns : goal.returns
returns c = plain c.args.bank.now c.args.counts.now
