-- The checks of reading, in order. The first check that a file fails determines its fault.
use Rattle.std.specs.Prelude.{◌≡◌, ◌+◌, ◌-◌, ◌%◌, ◌/◌, ℕ, List, [], ◌∷◌, ◌++◌, length, take, drop, map, flat_map}
use Rattle.std.specs.Prelude.{sum_by, Option, None, is_some, Bool, true, nat_le, nat_lt, ◌==◌, ◌&&◌, bytes_eq}
use Rattle.std.specs.List.{list_all}
use Rattle.sf_base.specs.Fields.{field_at}
use Rattle.sf_base.specs.declared.limits.TheConstants.{RECORDS, POINTS, ZERO_POINTS}
use Rattle.riff_chunks.specs.Walk.{Chunk, walk}
use Rattle.riff_chunks.specs.Finding.{is_whole, chunks_in, first_body, first_list}
use Rattle.bank_parts.specs.declared.parts.Zone.{Zone}
use Rattle.bank_parts.specs.declared.parts.ZoneOwner.{ZoneOwner}
use Rattle.bank_parts.specs.declared.parts.Parts.{Parts}
use Rattle.hydra_records.specs.declared.head.PresetHead.{PresetHead}
use Rattle.hydra_records.specs.declared.head.InstrumentHead.{InstrumentHead}
use Rattle.hydra_records.specs.declared.head.SampleHead.{SampleHead}
use Rattle.hydra_records.specs.declared.zone.Bag.{Bag}
use Rattle.bank_format.specs.declared.fault.Counts.{Counts}
use Rattle.bank_format.specs.declared.fault.ReadFault.{ReadFault}
use Rattle.bank_format.specs.declared.fault.ReadFault.TheVariants as fault
use Rattle.bank_format.specs.Ids as id
use Rattle.bank_format.specs.FaultChecks.{Check, check, first_fault}
use Rattle.bank_format.specs.Windows.{without_terminal}
use Rattle.bank_format.specs.Tables.{Tables}
use Rattle.bank_format.specs.Chunks.{riff_size, window, list_window, chunks_of, body_in, tables_in, points_in}
use Rattle.bank_format.specs.Reading.{bank_of, content_in}

-- ---- the RIFF chunk

-- the RIFF chunk of a form: its id, its size, and its form, each with a fault
unfoldable pub form_checks : {F : Type 0} → List ℕ → F → F → F → List ℕ → List (Check F)
form_checks form not_riff truncated other_form file =
    check (bytes_eq (take 4 file) id.RIFF) not_riff
    ∷ check (nat_le 12 (length file)) truncated
    ∷ check (nat_le 4 (riff_size file)) truncated
    ∷ check (nat_le (8 + riff_size file) (length file + 1)) truncated
    ∷ check (bytes_eq (take 4 (drop 8 file)) form) other_form
    ∷ []

abbrev pub frame_checks : List ℕ → List (Check ReadFault)
frame_checks file = form_checks id.SFBK fault.NotRiff fault.Truncated fault.NotSfbk file

-- ---- the three lists: the window consists of whole chunks, each list exists, and consists of whole chunks

abbrev pub list_check : List ℕ → List ℕ → Check ReadFault
list_check form w = check (is_some (first_list form (chunks_in (walk w)))) fault.MissingList

abbrev pub walk_check : List ℕ → Check ReadFault
walk_check w = check (is_whole (walk w)) fault.Truncated

unfoldable pub list_checks : List ℕ → List (Check ReadFault)
list_checks w =
    walk_check w
    ∷ list_check id.INFO w ∷ list_check id.SDTA w ∷ list_check id.PDTA w
    ∷ walk_check (list_window id.INFO w) ∷ walk_check (list_window id.SDTA w) ∷ walk_check (list_window id.PDTA w)
    ∷ []

-- ---- the required chunks, and the version

abbrev pub chunk_check : List Chunk → List ℕ → Check ReadFault
chunk_check chunks name = check (is_some (first_body name chunks)) fault.MissingChunk

abbrev pub nine : List (List ℕ)
nine = id.PHDR ∷ id.PBAG ∷ id.PMOD ∷ id.PGEN ∷ id.INST ∷ id.IBAG ∷ id.IMOD ∷ id.IGEN ∷ id.SHDR ∷ []

unfoldable pub chunk_checks : List Chunk → List Chunk → List (Check ReadFault)
chunk_checks info pdta =
    chunk_check info id.IFIL
    ∷ (map (chunk_check pdta) nine
    ++ check (length (body_in id.IFIL info) == 4 && field_at 0 2 (body_in id.IFIL info) == 2) fault.Version ∷ [])

-- ---- the length of each of the nine lists is a multiple of its record size

abbrev pub size_check : List Chunk → List ℕ → ℕ → Check ReadFault
size_check pdta name size = check (length (body_in name pdta) % size == 0) fault.RecordSize

unfoldable pub size_checks : List Chunk → List (Check ReadFault)
size_checks pdta =
    size_check pdta id.PHDR 38 ∷ size_check pdta id.PBAG 4 ∷ size_check pdta id.PMOD 10 ∷ size_check pdta id.PGEN 4
    ∷ size_check pdta id.INST 22 ∷ size_check pdta id.IBAG 4 ∷ size_check pdta id.IMOD 10 ∷ size_check pdta id.IGEN 4
    ∷ size_check pdta id.SHDR 46
    ∷ []

-- ---- each of the nine lists has a terminal, and at most RECORDS records

abbrev pub record_counts : Tables → List ℕ
record_counts t =
    length t.phdr ∷ length t.pbag ∷ length t.pmod ∷ length t.pgen ∷ length t.inst ∷ length t.ibag ∷ length t.imod
    ∷ length t.igen ∷ length t.shdr ∷ []

unfoldable pub count_checks : Tables → List (Check ReadFault)
count_checks t =
    map (λ n. check (nat_le 1 n) fault.NoTerminal) (record_counts t)
    ++ map (λ n. check (nat_le n RECORDS) fault.TooMany) (record_counts t)

-- ---- the points are an even number of bytes

unfoldable pub point_checks : List Chunk → List (Check ReadFault)
point_checks sdta = check (length (body_in id.SMPL sdta) % 2 == 0) fault.OddSamples ∷ []

-- ---- indexes into a list of n records are non-decreasing, and at most n - 1

abbrev pub is_rising_from : ℕ → List ℕ → Bool
is_rising_from at [] = true
is_rising_from at (i ∷ is) = nat_le at i && is_rising_from i is

abbrev pub is_rising : List ℕ → Bool
is_rising is = is_rising_from 0 is

unfoldable pub index_checks : List ℕ → ℕ → List (Check ReadFault)
index_checks is n =
    check (is_rising is) fault.BagOrder ∷ check (list_all (λ i. nat_le i (n - 1)) is) fault.IndexOutside ∷ []

abbrev pub bag_checks : List Bag → ℕ → ℕ → List (Check ReadFault)
bag_checks bags gens mods =
    index_checks (map (λ (r : Bag). r.gens) bags) gens ++ index_checks (map (λ (r : Bag). r.mods) bags) mods

unfoldable pub all_index_checks : Tables → List (Check ReadFault)
all_index_checks t =
    index_checks (map (λ (h : PresetHead). h.bag) t.phdr) (length t.pbag)
    ++ (bag_checks t.pbag (length t.pgen) (length t.pmod)
    ++ (index_checks (map (λ (h : InstrumentHead). h.bag) t.inst) (length t.ibag)
    ++ bag_checks t.ibag (length t.igen) (length t.imod)))

-- ---- each sample header: not packed (bit 0x0010 of its type), not in ROM (bit 0x8000), and a range within the
-- points

unfoldable pub sample_checks : ℕ → SampleHead → List (Check ReadFault)
sample_checks points h =
    check (h.kind / 16 % 2 == 0) fault.SampleType
    ∷ check (h.kind / 32768 % 2 == 0) fault.RomSample
    ∷ check (nat_le h.start h.end && nat_le h.end points) fault.SampleRange
    ∷ []

-- ---- the target of each zone that is kept: an instrument of the bank in a preset, a sample in an instrument

abbrev pub target_check : ℕ → ReadFault → Zone → Check ReadFault
target_check targets missing z = check (nat_lt z.target targets) missing

abbrev pub targets_of : {H : Type 0} → ℕ → ReadFault → List (ZoneOwner H) → List (Check ReadFault)
targets_of targets missing owners = map (target_check targets missing) (flat_map (λ x. x.zones) owners)

unfoldable pub target_checks : Parts → List (Check ReadFault)
target_checks b =
    targets_of (length b.instruments) fault.BadInstrument b.presets
    ++ targets_of (length b.samples) fault.BadSample b.instruments

-- ---- the points of all samples, with the zero points after each, are at most POINTS

unfoldable pub total_checks : List SampleHead → List (Check ReadFault)
total_checks heads =
    check (nat_le (sum_by (λ (h : SampleHead). h.end - h.start + ZERO_POINTS) heads) POINTS) fault.TooMany ∷ []

-- ---- all checks

-- the checks of the chunks of the three lists
unfoldable pub content_checks : List Chunk → List Chunk → List Chunk → Tables → List (Check ReadFault)
content_checks info sdta pdta t =
    chunk_checks info pdta
    ++ (size_checks pdta
    ++ (count_checks t
    ++ (point_checks sdta
    ++ (all_index_checks t
    ++ (flat_map (sample_checks (length (points_in sdta))) (without_terminal t.shdr)
    ++ (target_checks (bank_of info sdta t)
    ++ total_checks (without_terminal t.shdr)))))))

unfoldable pub window_checks : List ℕ → List (Check ReadFault)
window_checks w =
    list_checks w
    ++ content_checks (chunks_of id.INFO w) (chunks_of id.SDTA w) (chunks_of id.PDTA w)
    (tables_in (chunks_of id.PDTA w))

unfoldable pub checks : List ℕ → List (Check ReadFault)
checks file = frame_checks file ++ window_checks (window file)

-- The fault of a file is that of the first check that fails.
abbrev pub fault_of : List ℕ → Option ReadFault
fault_of file = first_fault (checks file)

-- The file passes every check, and its content is this bank with these counts.
abbrev pub ReadsAs : List ℕ → Parts → Counts → Type 0
ReadsAs file b counts = (fault_of file ≡ None) × (content_in (window file) ≡ record { bank = b; counts = counts })
