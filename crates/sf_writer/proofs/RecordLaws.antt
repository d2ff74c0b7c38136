-- The headers of samples, the nine lists, and their lengths.
use Rattle.std.proofs.Common.{◌≡◌, ◌<◌, ◌≤◌, ◌+◌, ◌*◌, ◌%◌, ℕ, List, [], ◌∷◌, ◌++◌, length, get_or, drop, refl, ap}
use Rattle.std.proofs.Common.{sym, ◌∙◌, append_assoc, arith}
use Rattle.std.specs.List.{flat_map, concat, AllByRecursion}
use Rattle.std.specs.Int.{w8, cast_unsigned}
use Rattle.std.proofs.lemmas.List.{length-append, append-nil, at_drop_more, drop_all}
use Rattle.std.proofs.lemmas.List.Concat.{flat_map-append}
use Rattle.byteorder.specs.Endian.{little_bytes}
use Rattle.generators.specs.declared.level.Level.TheVariants as level
use Rattle.riff_chunks.specs.Walk.{Chunk, LIST}
use Rattle.riff_chunks.specs.Encoding.{chunk, encode}
use Rattle.riff_chunks.proofs.EncodingLaws.{length-chunk}
use Rattle.hydra_records.specs.declared.head.SampleHead.{SampleHead}
use Rattle.hydra_records.specs.Encoding.{preset_head_bytes, instrument_head_bytes, sample_head_bytes}
use Rattle.bank_parts.specs.declared.parts.Sample.{Sample}
use Rattle.bank_parts.specs.declared.parts.Parts.{Parts}
use Rattle.bank_parts.specs.Valid.{IsSample, IsValid}
use Rattle.bank_format.specs.Ids.{PDTA, PHDR, INST, SHDR, EOS}
use Rattle.bank_format.specs.Tables.{tables_of, sample_end, sample_head, sample_heads_from, all_bags}
use Rattle.bank_format.specs.Canon.{pdta}
use Rattle.sf_writer.specs.Lists.{zone_lists}
use Rattle.sf_writer.proofs.ChunkLaws.{length-form-even, length-LIST}
use Rattle.bank_format.proofs.NameLaws.{length-filled}
use Rattle.sf_writer.proofs.ZoneListLaws.{zone_lists-even}

-- ---- the headers of samples

abbrev heads : Parts → List ℕ
heads b = flat_map sample_head_bytes (tables_of b).shdr

-- the headers, and then the terminal
pub shdr-is : (b : Parts)
    → heads b ≡ flat_map sample_head_bytes (sample_heads_from 0 b.samples) ++ sample_head_bytes sample_end
unfolding tables_of
shdr-is b =
    flat_map-append sample_head_bytes (sample_heads_from 0 b.samples) (sample_end ∷ [])
    ∙ ap (λ (t : List ℕ). flat_map sample_head_bytes (sample_heads_from 0 b.samples) ++ t)
    (append-nil (sample_head_bytes sample_end))

length-head : (h : SampleHead) → length h.name ≡ 20 → length (sample_head_bytes h) ≡ 46
unfolding sample_head_bytes
length-head h e =
    omega (
      arith,
      e,
      length-append h.name
          (concat
          (little_bytes 4 h.start ∷ little_bytes 4 h.end ∷ little_bytes 4 h.loop_start
          ∷ little_bytes 4 h.loop_end ∷ little_bytes 4 h.rate ∷ little_bytes 1 h.key
          ∷ little_bytes 1 (cast_unsigned w8 h.correction) ∷ little_bytes 2 h.link ∷ little_bytes 2 h.kind
          ∷ [])),
    )

length-heads : (n start : ℕ) (samples : List Sample) → AllByRecursion (IsSample n) samples
    → length (flat_map sample_head_bytes (sample_heads_from start samples)) ≡ 46 * length samples
length-heads n start [] v = refl
length-heads n start (s ∷ samples) v =
    omega (
      arith,
      length-append (sample_head_bytes (sample_head start s))
          (flat_map sample_head_bytes (sample_heads_from (start + length s.points + 46) samples)),
      length-head (sample_head start s) (length-filled s.name v.0.name.0),
      length-heads n (start + length s.points + 46) samples v.1,
    )

length-sample_end : length (sample_head_bytes sample_end) ≡ 46
unfolding EOS
length-sample_end = length-head sample_end refl

pub length-shdr_list : (b : Parts) → length (chunk SHDR (heads b)) ≡ 8 + length (heads b) + length (heads b) % 2
unfolding SHDR
length-shdr_list b = length-chunk SHDR (heads b) refl

length-shdr_parts : (b : Parts)
    → length (heads b) ≡ length (flat_map sample_head_bytes (sample_heads_from 0 b.samples)) + 46
length-shdr_parts b =
    omega (
      arith,
      ap length (shdr-is b),
      length-append (flat_map sample_head_bytes (sample_heads_from 0 b.samples)) (sample_head_bytes sample_end),
      length-sample_end,
    )

pub length_shdr : (b : Parts) → IsValid b → length (heads b) ≡ 46 * (length b.samples + 1)
length_shdr b v = omega (arith, length-shdr_parts b, length-heads (length b.samples) 0 b.samples v.samples)

pub shdr-even : (b : Parts) → IsValid b → length (heads b) % 2 ≡ 0
shdr-even b v = omega (arith, length_shdr b v)

-- the headers of the samples from index i on, and the terminal
unfoldable pub remaining_heads : ℕ → ℕ → List Sample → List ℕ
remaining_heads start i samples =
    flat_map sample_head_bytes (sample_heads_from start (drop i samples)) ++ sample_head_bytes sample_end

pub heads-start : (b : Parts) (samples : List Sample) → samples ≡ b.samples → heads b ≡ remaining_heads 0 0 samples
unfolding remaining_heads
heads-start b samples e =
    shdr-is b
    ∙ ap
    (λ (xs : List Sample).
    flat_map sample_head_bytes (sample_heads_from 0 xs) ++ sample_head_bytes sample_end)
    (sym e)

-- the headers from index i on are that of sample i, and those after it
pub heads-next : (samples : List Sample) (i start : ℕ) (s : Sample) (h : SampleHead) (bytes : List ℕ)
    → i < length samples → s ≡ get_or samples i s
    → h ≡ sample_head start s → bytes ≡ sample_head_bytes h
    → remaining_heads start i samples ≡ bytes ++ remaining_heads (h.end + 46) (i + 1) samples
unfolding remaining_heads
heads-next samples i start s h bytes lt is made encoding =
    at_drop_more
    (λ (xs : List Sample).
    flat_map sample_head_bytes (sample_heads_from start xs) ++ sample_head_bytes sample_end)
    samples i s lt
    ∙ ap
    (λ (x : Sample).
    flat_map sample_head_bytes (sample_heads_from start (x ∷ drop (i + 1) samples))
    ++ sample_head_bytes sample_end)
    (sym is)
    ∙ append_assoc (sample_head_bytes (sample_head start s))
    (flat_map sample_head_bytes (sample_heads_from (start + length s.points + 46) (drop (i + 1) samples)))
    (sample_head_bytes sample_end)
    ∙ ap (λ (x : SampleHead). sample_head_bytes x ++ remaining_heads (x.end + 46) (i + 1) samples) (sym made)
    ∙ ap (λ (t : List ℕ). t ++ remaining_heads (h.end + 46) (i + 1) samples) (sym encoding)

-- after the last sample, only the terminal remains
pub heads-last : (samples : List Sample) (i start : ℕ) (h : SampleHead) (bytes : List ℕ) → length samples ≤ i
    → h ≡ sample_end → bytes ≡ sample_head_bytes h
    → remaining_heads start i samples ≡ bytes
unfolding remaining_heads
heads-last samples i start h bytes le made encoding =
    ap
    (λ (xs : List Sample).
    flat_map sample_head_bytes (sample_heads_from start xs) ++ sample_head_bytes sample_end)
    (drop_all i samples le)
    ∙ ap sample_head_bytes (sym made) ∙ sym encoding

-- ---- all nine

abbrev phdr : Parts → List ℕ
phdr b = chunk PHDR (flat_map preset_head_bytes (tables_of b).phdr)

abbrev inst : Parts → List ℕ
inst b = chunk INST (flat_map instrument_head_bytes (tables_of b).inst)

abbrev preset_lists : Parts → List ℕ
preset_lists b = encode (zone_lists level.Preset (all_bags level.Preset b.presets))

abbrev instrument_lists : Parts → List ℕ
instrument_lists b = encode (zone_lists level.Inst (all_bags level.Inst b.instruments))

pub pdta-is : (b : Parts)
    → encode (pdta (tables_of b))
    ≡ phdr b ++ (preset_lists b ++ (inst b ++ (instrument_lists b ++ chunk SHDR (heads b))))
unfolding pdta tables_of zone_lists
pdta-is b =
    let shdr : List Chunk = record { id = SHDR; body = heads b } ∷ [] in
    let last : encode (zone_lists level.Inst (all_bags level.Inst b.instruments) ++ shdr)
    ≡ instrument_lists b ++ chunk SHDR (heads b) =
    flat_map-append (λ (c : Chunk). chunk c.id c.body)
    (zone_lists level.Inst (all_bags level.Inst b.instruments)) shdr
    ∙ ap (λ (t : List ℕ). instrument_lists b ++ t) (append-nil (chunk SHDR (heads b))) in
    ap (λ (t : List ℕ). phdr b ++ t)
    (flat_map-append (λ (c : Chunk). chunk c.id c.body)
    (zone_lists level.Preset (all_bags level.Preset b.presets))
    (record { id = INST; body = flat_map instrument_head_bytes (tables_of b).inst }
    ∷ (zone_lists level.Inst (all_bags level.Inst b.instruments) ++ shdr)))
    ∙ ap (λ (t : List ℕ). phdr b ++ (preset_lists b ++ (inst b ++ t))) last

pub length-pdta : (b : Parts)
    → length (encode (pdta (tables_of b)))
    ≡ length (phdr b) + length (preset_lists b) + length (inst b) + length (instrument_lists b)
    + length (chunk SHDR (heads b))
length-pdta b =
    omega (
      arith,
      ap length (pdta-is b),
      length-append (phdr b) (preset_lists b ++ (inst b ++ (instrument_lists b ++ chunk SHDR (heads b)))),
      length-append (preset_lists b) (inst b ++ (instrument_lists b ++ chunk SHDR (heads b))),
      length-append (inst b) (instrument_lists b ++ chunk SHDR (heads b)),
      length-append (instrument_lists b) (chunk SHDR (heads b)),
    )

pub pdta-even : (b : Parts) → length (encode (pdta (tables_of b))) % 2 ≡ 0
unfolding PHDR INST
pdta-even b =
    omega (
      arith,
      length-pdta b,
      length-chunk PHDR (flat_map preset_head_bytes (tables_of b).phdr) refl,
      zone_lists-even level.Preset (all_bags level.Preset b.presets),
      length-chunk INST (flat_map instrument_head_bytes (tables_of b).inst) refl,
      zone_lists-even level.Inst (all_bags level.Inst b.instruments),
      length-shdr_list b,
    )

pub length-PDTA : length PDTA ≡ 4
unfolding PDTA
length-PDTA = refl

pub length-pdta_list : (b : Parts)
    → length (chunk LIST (PDTA ++ encode (pdta (tables_of b)))) ≡ 8 + length (PDTA ++ encode (pdta (tables_of b)))
length-pdta_list b = length-form-even LIST PDTA (encode (pdta (tables_of b))) length-LIST length-PDTA (pdta-even b)
