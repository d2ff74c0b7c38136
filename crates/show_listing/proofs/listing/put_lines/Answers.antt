use Rattle.std.proofs.Common.{ap}
use Rattle.std.specs.Prelude.{codes, None}
use Rattle.std.specs.Option.{option_copied, option_map}
use Rattle.base_outputs.proofs.OutputLaws.{puts_as, puts_then}
use Rattle.show_listing.specs.Listing.{preset_line, instrument_line, lines_from}
use Rattle.show_listing.specs.Uses.{UsageCounts}
use Rattle.show_listing.specs.Details.{owner_lines, sample_lines, listing_with}
use Rattle.show_listing.proofs.listing.put_lines.Goals as goal

pub returns : goal.returns
unfolding listing_with
returns g c =
    let uses = option_copied c.args.uses in
    let presets =
    puts_as _ _
    (ap (lines_from (owner_lines preset_line (codes "preset") None c.args.zones) 0) c.presets.ensures.value)
    c.put_owners.ensures in
    let requested = rw c.of_instruments.ensures at c.put_owners-2.ensures in
    let instruments =
    puts_as _ _
    (ap
    (lines_from
    (owner_lines instrument_line (codes "inst") (option_map (λ (u : UsageCounts). u.instruments) uses)
    c.args.zones)
    0)
    c.instruments.ensures.value)
    requested in
    let samples = puts_as _ _ (ap (lines_from (sample_lines uses) 0) c.samples.ensures.value) c.put_samples.ensures in
    puts_then _ _ c.put_bank.ensures
    (puts_then _ _ c.put_counts.ensures (puts_then _ _ presets (puts_then _ _ instruments samples)))
