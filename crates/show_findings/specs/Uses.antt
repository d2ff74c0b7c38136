-- Instruments and samples that are not used.
use Rattle.std.specs.Prelude.{ℕ, Bool, cond, ◌==◌, ◌||◌, List, length, Option, Some, None, slice_get}
use Rattle.std.specs.List.{flat_map, filter_map, list_any}
use Rattle.std.specs.Option.{option_and_then}
use Rattle.bank_parts.specs.declared.parts.Sample.{Sample}
use Rattle.bank_parts.specs.declared.parts.Parts.{Parts}
use Rattle.bank_parts.specs.Links.{link_of}
use Rattle.bank_changes.specs.declared.members.Owner.{Owner}
use Rattle.bank_changes.specs.Members.{target_of}
use Rattle.show_zone_map.specs.Rectangles.{zone_numbers}
use Rattle.show_findings.specs.declared.finding.Finding.{Finding}
use Rattle.show_findings.specs.declared.finding.Finding.TheVariants.{UnusedInstrument, UnusedSample}
use Rattle.show_findings.specs.Numbers.{numbers, preset_owners, instrument_owners}

-- the targets of all zones of these owners
abbrev pub targets_of : Parts → List Owner → List ℕ
targets_of b os = flat_map (λ (o : Owner). filter_map (target_of b o) (zone_numbers b o)) os

-- the sample that sample n links to, unless it is itself
abbrev pub other_link : Parts → ℕ → Option ℕ
other_link b n =
    option_and_then (λ (s : Sample). option_and_then (λ (t : ℕ). cond (t == n) None (Some t)) (link_of s.kind))
    (slice_get b.samples n)

-- the samples that other samples link to
abbrev pub links_in : Parts → List ℕ
links_in b = filter_map (other_link b) (numbers (length b.samples))

abbrev pub has : List ℕ → ℕ → Bool
has ns n = list_any (λ m. m == n) ns

-- no zone of a preset targets the instrument
abbrev pub unused_instrument : Parts → ℕ → Option Finding
unused_instrument b i = cond (has (targets_of b (preset_owners b)) i) None (Some (UnusedInstrument i))

unfoldable pub unused_instruments : Parts → List Finding
unused_instruments b = filter_map (unused_instrument b) (numbers (length b.instruments))

-- no zone of an instrument targets the sample, and no other sample links to it
abbrev pub unused_sample : Parts → ℕ → Option Finding
unused_sample b s =
    cond (has (targets_of b (instrument_owners b)) s || has (links_in b) s) None (Some (UnusedSample s))

unfoldable pub unused_samples : Parts → List Finding
unused_samples b = filter_map (unused_sample b) (numbers (length b.samples))
