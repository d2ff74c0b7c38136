-- The listing that answers `show`.
use Rattle.std.proofs.Common.{◌≡◌, [], Option, Some, ap}
use Rattle.std.specs.Option.{option_map_or}
use Rattle.bank_parts.specs.declared.parts.Parts.{Parts}
use Rattle.bank_format.specs.declared.fault.Counts.{Counts}
use Rattle.show_listing.specs.Listing.{listing}
use Rattle.inverse_edits.specs.Histories.{bank_now}
use Rattle.live_sessions.specs.declared.live.LiveState.{LiveState}
use Rattle.live_sessions.specs.AnswerTexts.{listing_now}

pub bank_is_listed : (counts : Counts) (s : LiveState) (b : Parts) → bank_now s.session ≡ Some b
    → listing_now counts s ≡ listing b counts
bank_is_listed counts s b e = ap (λ (o : Option Parts). option_map_or (λ (b : Parts). listing b counts) o []) e
