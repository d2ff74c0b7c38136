-- The data of a page has no `<`.
use Rattle.std.proofs.Common.{ℕ, List, [], ◌∷◌, codes, refl, decimal}
use Rattle.std.specs.Fmt.{signed_decimal}
use Rattle.std.specs.Int.{w16, cast_signed}
use Rattle.std.specs.List.{flat_map, range_with_len}
use Rattle.std.specs.FinMap.{entries}
use Rattle.modulators.specs.declared.modulator.Modulator.{Modulator}
use Rattle.bank_parts.specs.declared.parts.Head.{Head}
use Rattle.bank_parts.specs.declared.parts.GlobalZone.{GlobalZone}
use Rattle.bank_parts.specs.declared.parts.Zone.{Zone}
use Rattle.bank_parts.specs.declared.parts.ZoneOwner.{ZoneOwner}
use Rattle.bank_parts.specs.declared.parts.Sample.{Sample}
use Rattle.bank_parts.specs.declared.parts.Parts.{Parts}
use Rattle.show_sample.specs.Extremes.{extremes_of}
use Rattle.show_sample.specs.Columns.{column_points}
use Rattle.show_findings.specs.declared.finding.Finding.{Finding}
use Rattle.show_findings.specs.declared.finding.Finding.TheVariants.{HiddenPreset, UnselectableZone, UnusedInstrument}
use Rattle.show_findings.specs.declared.finding.Finding.TheVariants.{UnusedSample, SilentKeys, OverriddenGenerator}
use Rattle.show_findings.specs.declared.finding.Finding.TheVariants.{OneSidedLink, ShortLoop, ClickingLoop, UnusualRate}
use Rattle.show_findings.specs.declared.finding.Finding.TheVariants.{ClippedSample, SilentSample, OffsetSample}
use Rattle.show_findings.specs.declared.finding.Finding.TheVariants.{EqualSample, OutsideRange}
use Rattle.show_findings.specs.declared.finding.Member.{Member}
use Rattle.show_findings.specs.declared.finding.Member.TheVariants as member
use Rattle.show_findings.specs.Kinds.{member_of}
use Rattle.show_findings.specs.Messages.{message}
use Rattle.show_page.specs.declared.json.Field.TheVariants.{Number, Signed, Text}
use Rattle.show_page.specs.Json.{more, opened, next_text}
use Rattle.show_page.specs.Zones.{generator_text, modulator_text, settings_text, global_text, zone_text, owner_text}
use Rattle.show_page.specs.Zones.{preset_head, instrument_head}
use Rattle.show_page.specs.Columns.{column_count, height_text, column, columns}
use Rattle.show_page.specs.Samples.{sample_fields, sample_text}
use Rattle.show_page.specs.Findings.{member_text, zone_of, zone_field, finding_text}
use Rattle.show_page.specs.Data.{bank_fields, page_data}
use Rattle.show_page.proofs.MarkupLaws.{inner_decimal, inner_signed}
use Rattle.show_page.proofs.MarkupLaws.{Inner, fixed, inner_then, inner_all, inner_digits, inner_fields, inner_next}
use Rattle.show_page.proofs.MarkupLaws.{inner_opened, inner_listed}

-- ---- presets and instruments

inner_generator : (e : ℕ × ℕ) → Inner (generator_text e)
inner_generator e = inner_then (codes ",") _ (fixed refl) (inner_listed (Number e.0) (Number e.1 ∷ []))

inner_modulator : (m : Modulator) → Inner (modulator_text m)
inner_modulator m =
    inner_then (codes ",") _ (fixed refl)
    (inner_listed (Number m.source)
    (Number m.dest ∷ Signed m.amount ∷ Number m.amount_source ∷ Number m.transform ∷ []))

inner_settings : (gens : List (ℕ × ℕ)) (mods : List Modulator) → Inner (settings_text gens mods)
inner_settings gens mods =
    inner_then (flat_map generator_text gens) _ (inner_all generator_text inner_generator gens)
    (inner_then (flat_map modulator_text mods) (codes "]") (inner_all modulator_text inner_modulator mods) (fixed refl))

inner_global : (x : GlobalZone) → Inner (global_text x)
inner_global x = inner_then (codes ",[\"global\"") _ (fixed refl) (inner_settings (entries x.gens) x.mods)

inner_zone : (z : Zone) → Inner (zone_text z)
inner_zone z =
    inner_then (codes ",") _ (fixed refl)
    (inner_then (opened (Number z.target)) _ (inner_opened (Number z.target)) (inner_settings (entries z.gens) z.mods))

inner_owner : {H : Type 0} (head : H → List ℕ) → ((h : H) → Inner (head h)) → (x : ZoneOwner H)
    → Inner (owner_text head x)
unfolding owner_text
inner_owner head each x =
    inner_then (codes "\n,") _ (fixed refl)
    (inner_then (head x.head) _ (each x.head)
    (inner_then (global_text x.global) _ (inner_global x.global)
    (inner_then (flat_map zone_text x.zones) (codes "]") (inner_all zone_text inner_zone x.zones) (fixed refl))))

inner_preset_head : (head : Head) → Inner (preset_head head)
inner_preset_head head =
    inner_then (opened (Text head.name)) _ (inner_opened (Text head.name))
    (inner_then (next_text (Number head.bank)) _ (inner_next (Number head.bank)) (inner_next (Number head.number)))

inner_instrument_head : (name : List ℕ) → Inner (instrument_head name)
inner_instrument_head name = inner_opened (Text name)

-- ---- samples

inner_column : (points : List ℕ) (c : ℕ) → Inner (column points c)
inner_column points c =
    let ends = extremes_of (column_points points (column_count points) c) in
    inner_then (height_text ends.high) _ (inner_digits _) (inner_digits _)

inner_columns : (points : List ℕ) → Inner (columns points)
unfolding columns
inner_columns points = inner_all (column points) (inner_column points) (range_with_len 0 (column_count points))

inner_sample : (s : Sample) → Inner (sample_text s)
unfolding sample_text
inner_sample s =
    inner_then (codes "\n,") _ (fixed refl)
    (inner_then (opened (Text s.name)) _ (inner_opened (Text s.name))
    (inner_then (more (sample_fields s)) _ (inner_fields (sample_fields s))
    (inner_then (codes ",\"") _ (fixed refl)
    (inner_then (columns s.points) (codes "\"]") (inner_columns s.points) (fixed refl)))))

-- ---- findings

inner_message : (f : Finding) → Inner (message f)
unfolding message
inner_message (HiddenPreset p q) = fixed (inner_then (decimal q) _ (inner_decimal q) (fixed refl)).all
inner_message (UnselectableZone o k) = fixed refl
inner_message (UnusedInstrument i) = fixed refl
inner_message (UnusedSample s) = fixed refl
inner_message (SilentKeys p low high) =
    fixed
    (inner_then (decimal low) _ (inner_decimal low)
    (fixed (inner_then (decimal high) _ (inner_decimal high) (fixed refl)).all)).all
inner_message (OverriddenGenerator o op) = fixed (inner_then (decimal op) _ (inner_decimal op) (fixed refl)).all
inner_message (OutsideRange o at op amount nearest) =
    let z = cast_signed w16 amount in
    fixed
    (inner_then (decimal op) _ (inner_decimal op)
    (fixed (inner_then (signed_decimal z) _ (inner_signed z) (fixed refl)).all)).all
inner_message (OneSidedLink s t) = fixed (inner_then (decimal t) _ (inner_decimal t) (fixed refl)).all
inner_message (ShortLoop s n) = fixed (inner_then (decimal n) _ (inner_decimal n) (fixed refl)).all
inner_message (ClickingLoop s jump step) =
    fixed
    (inner_then (decimal jump) _ (inner_decimal jump)
    (fixed (inner_then (decimal step) _ (inner_decimal step) (fixed refl)).all)).all
inner_message (UnusualRate s rate) = fixed (inner_then (decimal rate) _ (inner_decimal rate) (fixed refl)).all
inner_message (ClippedSample s n) = fixed (inner_then (decimal n) _ (inner_decimal n) (fixed refl)).all
inner_message (SilentSample s) = fixed refl
inner_message (OffsetSample s mean) = fixed (inner_then (signed_decimal mean) _ (inner_signed mean) (fixed refl)).all
inner_message (EqualSample s t) = fixed (inner_then (decimal t) _ (inner_decimal t) (fixed refl)).all

inner_member : (m : Member) → Inner (member_text m)
inner_member (member.Preset p) = inner_then (codes "[\"preset\"") _ (fixed refl) (inner_next (Number p))
inner_member (member.Instrument i) = inner_then (codes "[\"inst\"") _ (fixed refl) (inner_next (Number i))
inner_member (member.Sample s) = inner_then (codes "[\"sample\"") _ (fixed refl) (inner_next (Number s))

inner_finding : (f : Finding) → Inner (finding_text f)
unfolding finding_text
inner_finding f =
    inner_then (codes "\n,") _ (fixed refl)
    (inner_then (member_text (member_of f)) _ (inner_member (member_of f))
    (inner_then (next_text (zone_field (zone_of f))) _ (inner_next (zone_field (zone_of f)))
    (inner_then (codes ",\"") _ (fixed refl) (inner_then (message f) (codes "\"]") (inner_message f) (fixed refl)))))

-- ---- the bank

pub inner_data : (b : Parts) (findings : List Finding) → Inner (page_data b findings)
unfolding page_data
inner_data b findings =
    inner_then (codes "[[\"bank\"") _ (fixed refl)
    (inner_then (more (bank_fields b)) _ (inner_fields (bank_fields b))
    (inner_then (codes "],\n[\"presets\"") _ (fixed refl)
    (inner_then (flat_map (owner_text preset_head) b.presets) _
    (inner_all (owner_text preset_head) (inner_owner preset_head inner_preset_head) b.presets)
    (inner_then (codes "],\n[\"instruments\"") _ (fixed refl)
    (inner_then (flat_map (owner_text instrument_head) b.instruments) _
    (inner_all (owner_text instrument_head) (inner_owner instrument_head inner_instrument_head) b.instruments)
    (inner_then (codes "],\n[\"samples\"") _ (fixed refl)
    (inner_then (flat_map sample_text b.samples) _ (inner_all sample_text inner_sample b.samples)
    (inner_then (codes "],\n[\"findings\"") _ (fixed refl)
    (inner_then (flat_map finding_text findings) (codes "]]") (inner_all finding_text inner_finding findings)
    (fixed refl))))))))))
