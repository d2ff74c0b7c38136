-- The details of a listing: after a member's line, how often it is used, and its zones.
use Rattle.std.specs.Prelude.{ℕ, Bool, List, [], ◌∷◌, ◌++◌, slice_index, codes, Option, Some, None, if◌then◌else◌}
use Rattle.std.specs.Option.{option_map}
use Rattle.bank_parts.specs.declared.parts.Zone.{Zone}
use Rattle.bank_parts.specs.declared.parts.ZoneOwner.{ZoneOwner}
use Rattle.bank_parts.specs.declared.parts.Sample.{Sample}
use Rattle.bank_parts.specs.declared.parts.Parts.{Parts}
use Rattle.bank_format.specs.declared.fault.Counts.{Counts}
use Rattle.script_tokens.specs.declared.printing.Piece.TheVariants.{Number, Word}
use Rattle.script_tokens.specs.Printing.{line_text}
use Rattle.script_grammar.specs.declared.items.Item.{Item}
use Rattle.script_grammar.specs.Operands.{pieces_of}
use Rattle.script_grammar.specs.Zones.{zone_operands, written_zone, global_operands, global_of}
use Rattle.show_listing.specs.declared.listing.Details.{Details}
use Rattle.show_listing.specs.declared.listing.Listing.{Listing}
use Rattle.show_listing.specs.Listing.{bank_line, counts_line, preset_line, instrument_line, sample_line, lines_from}
use Rattle.show_listing.specs.Listing.{owner_line}
use Rattle.show_listing.specs.Uses.{UsageCounts, usage_counts_in}

-- ---- how often a member is used

-- how many zones target member n of a list, by the counts of all members; nothing without counts
abbrev pub uses_line : List ℕ → ℕ → Option (List ℕ) → List ℕ
uses_line member n None = []
uses_line member n (Some counts) =
    line_text (codes "uses") (Word member ∷ Number n ∷ Word (codes "zones") ∷ Number (slice_index counts n) ∷ [])

-- the same for sample n, with how many other samples link to it
abbrev pub sample_uses_line : ℕ → Option UsageCounts → List ℕ
sample_uses_line n None = []
sample_uses_line n (Some named) = line_text (codes "uses") (
    Word (codes "sample") ∷ Number n
    ∷ Word (codes "zones") ∷ Number (slice_index named.samples n)
    ∷ Word (codes "links") ∷ Number (slice_index named.links n)
    ∷ [])

-- ---- zones, in the form of scripts

-- zone k of member n of a list
abbrev pub zone_line : List ℕ → ℕ → ℕ → Zone → List ℕ
zone_line member n k z =
    line_text (codes "zone") (Word member ∷ Number n ∷ Number k ∷ pieces_of (zone_operands (written_zone z)))

-- the global zone; nothing if it is empty
abbrev pub global_line : List ℕ → ℕ → Option (List Item) → List ℕ
global_line member n None = []
global_line member n (Some items) =
    line_text (codes "zone")
    (Word member ∷ Number n ∷ Word (codes "global") ∷ pieces_of (global_operands (Some items)))

-- all zones of a member, the global zone first
abbrev pub zone_lines : {H : Type 0} → List ℕ → ℕ → ZoneOwner H → List ℕ
zone_lines member n x = global_line member n (global_of x.global) ++ lines_from (zone_line member n) 0 x.zones

-- ---- a member with its details

abbrev pub owner_lines : {H : Type 0} → (ℕ → H → ℕ → List ℕ) → List ℕ → Option (List ℕ) → Bool → ℕ → ZoneOwner H
    → List ℕ
owner_lines line member uses zones n x =
    owner_line line n x ++ (uses_line member n uses ++ (if zones then zone_lines member n x else []))

abbrev pub sample_lines : Option UsageCounts → ℕ → Sample → List ℕ
sample_lines uses n s = sample_line n s ++ sample_uses_line n uses

-- ---- all lines

-- all lines; no zone targets a preset
unfoldable pub listing_with : Bool → Option UsageCounts → Parts → Counts → List ℕ
listing_with zones uses b counts =
    bank_line b
    ++ (counts_line counts
    ++ (lines_from (owner_lines preset_line (codes "preset") None zones) 0 b.presets
    ++ (lines_from
    (owner_lines instrument_line (codes "inst") (option_map (λ (u : UsageCounts). u.instruments) uses) zones) 0
    b.instruments
    ++ lines_from (sample_lines uses) 0 b.samples)))

abbrev pub detailed_listing : Details → Parts → Counts → List ℕ
detailed_listing details b counts =
    listing_with details.zones (if details.uses then Some (usage_counts_in b) else None) b counts

-- the text of a listing
abbrev pub listing_text : Listing → List ℕ
listing_text l = listing_with l.zones l.uses l.bank.now l.counts.now
