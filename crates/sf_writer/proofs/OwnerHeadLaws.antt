-- The headers of presets and of instruments, and their lengths.
use Rattle.std.proofs.Common.{◌≡◌, ◌<◌, ◌+◌, ◌*◌, ◌%◌, ℕ, zero, suc, List, [], ◌∷◌, ◌++◌, length, get_or, drop}
use Rattle.std.proofs.Common.{slice_get, Some, refl, ap, sym, ◌∙◌, arith}
use Rattle.std.specs.List.{flat_map, concat, AllByRecursion}
use Rattle.std.proofs.lemmas.List.{length-append, append-nil, at_drop_more, drop_all}
use Rattle.std.proofs.lemmas.Option.{get_or_from_slice_get}
use Rattle.byteorder.specs.Endian.{little_bytes}
use Rattle.generators.specs.declared.level.Level.{Level}
use Rattle.hydra_records.specs.declared.head.PresetHead.{PresetHead}
use Rattle.hydra_records.specs.declared.head.InstrumentHead.{InstrumentHead}
use Rattle.hydra_records.specs.Encoding.{preset_head_bytes, instrument_head_bytes}
use Rattle.bank_parts.specs.declared.parts.Head.{Head}
use Rattle.bank_parts.specs.declared.parts.ZoneOwner.{ZoneOwner}
use Rattle.bank_parts.specs.declared.parts.Parts.{Parts}
use Rattle.bank_parts.specs.Owners.{head_at}
use Rattle.bank_parts.specs.Valid.{IsPreset, IsInstrument, IsValid}
use Rattle.bank_parts.specs.FlatLists.{lists_of}
use Rattle.bank_format.specs.Ids.{EOP, EOI}
use Rattle.bank_format.specs.Tables.{Headers, heads_from, bags_of, tables_of, presets, preset_written, preset_end}
use Rattle.bank_format.specs.Tables.{instruments, instrument_written, instrument_end}
use Rattle.bank_format.specs.FlatTables.{headers_of}
use Rattle.bank_format.proofs.NameLaws.{length-filled}
use Rattle.bank_format.proofs.FlatLaws.{heads-flat}

-- ---- an owner and those after it

there : {X : Type 0} (xs : List X) (i : ℕ) → i < length xs → (x : X) × (slice_get xs i ≡ Some x)
there [] i lt = absurd (omega arith)
there (x ∷ xs) zero lt = (x, refl)
there (x ∷ xs) (suc i) lt = there xs i (omega arith)

left_at : {X : Type 0} (xs : List X) (i : ℕ) (x d : X) → i < length xs → x ≡ get_or xs i d
    → drop i xs ≡ x ∷ drop (i + 1) xs
left_at xs i x d lt e = at_drop_more (λ ys. ys) xs i d lt ∙ ap (λ y. y ∷ drop (i + 1) xs) (sym e)

-- ---- the headers of either level

module _ {H R : Type 0} (bytes_of : R → List ℕ) (h : Headers H R) where
  -- the bytes of the headers of these owners, with these first bags, and of the terminal
  abbrev encoding : List (ZoneOwner H) → List ℕ → List ℕ
  encoding owners first_bags = flat_map bytes_of (headers_of h owners first_bags)

  pub heads-start : (at : Level) (owners : List (ZoneOwner H)) (first_bags : List ℕ) → h.level ≡ at
      → first_bags ≡ (lists_of at owners).first_bags
      → flat_map bytes_of (heads_from h 0 owners) ≡ encoding owners first_bags
  heads-start at owners first_bags level e =
      ap (flat_map bytes_of) (heads-flat h owners)
      ∙ (ap (λ (l : Level). encoding owners (lists_of l owners).first_bags) level
      ∙ ap (encoding owners) (sym e))

  -- the headers from index i on are that of owner i, and those after it
  pub heads-next : (owners : List (ZoneOwner H)) (first_bags : List ℕ) (i at : ℕ) (head : H) (r : R) (bytes : List ℕ)
      → i < length owners → i < length first_bags
      → head_at owners i ≡ Some head → at ≡ get_or first_bags i 0 → r ≡ h.written at head → bytes ≡ bytes_of r
      → encoding (drop i owners) (drop i first_bags) ≡ bytes ++ encoding (drop (i + 1) owners) (drop (i + 1) first_bags)
  heads-next owners first_bags i at head r bytes lt within found is made put =
      let (x, has) = there owners i lt in
      let own : x.head ≡ head = cc in
      let record_is : bytes_of (h.written at x.head) ≡ bytes =
      ap (λ (k : H). bytes_of (h.written at k)) own ∙ ap bytes_of (sym made) ∙ sym put in
      (λ j.
      encoding (left_at owners i x x lt (sym (get_or_from_slice_get owners i x x has)) j)
      (left_at first_bags i at 0 within is j))
      ∙ ap (λ (t : List ℕ). t ++ encoding (drop (i + 1) owners) (drop (i + 1) first_bags)) record_is

  -- after the last owner, only the terminal remains
  pub heads-last : (owners : List (ZoneOwner H)) (first_bags : List ℕ) (n at : ℕ) (r : R) (bytes : List ℕ)
      → n ≡ length owners → n < length first_bags
      → at ≡ get_or first_bags n 0 → r ≡ h.last at → bytes ≡ bytes_of r
      → encoding (drop n owners) (drop n first_bags) ≡ bytes
  heads-last owners first_bags n at r bytes all within is made put =
      (λ j. encoding (drop_all n owners (omega (arith, all)) j) (left_at first_bags n at 0 within is j))
      ∙ append-nil (bytes_of (h.last at)) ∙ ap bytes_of (sym made) ∙ sym put

  -- the bytes of the headers of these owners and of the terminal, if `at` bags precede theirs
  abbrev encoding_from : ℕ → List (ZoneOwner H) → List ℕ
  encoding_from at owners = flat_map bytes_of (heads_from h at owners)

  -- if each header and the terminal have one size
  length-heads : (size : ℕ) (Fits : ZoneOwner H → Type 0)
      → ((at : ℕ) (x : ZoneOwner H) → Fits x → length (bytes_of (h.written at x.head)) ≡ size)
      → ((at : ℕ) → length (bytes_of (h.last at)) ≡ size)
      → (at : ℕ) (owners : List (ZoneOwner H)) → AllByRecursion Fits owners
      → length (encoding_from at owners) ≡ (length owners + 1) * size
  length-heads size Fits one end at [] v = omega (arith, length-append (bytes_of (h.last at)) [], end at)
  length-heads size Fits one end at (x ∷ owners) v =
      let next = at + length (bags_of h.level x) in
      omega (
        arith,
        length-append (bytes_of (h.written at x.head)) (encoding_from next owners),
        one at x v.0,
        length-heads size Fits one end next owners v.1,
      )

-- ---- presets

pub phdr-is : (b : Parts) → (tables_of b).phdr ≡ heads_from presets 0 b.presets
unfolding tables_of
phdr-is b = refl

length-preset_head : (h : PresetHead) → length h.name ≡ 20 → length (preset_head_bytes h) ≡ 38
unfolding preset_head_bytes
length-preset_head h e =
    omega (
      arith,
      e,
      length-append h.name
          (concat
          (little_bytes 2 h.number ∷ little_bytes 2 h.bank ∷ little_bytes 2 h.bag ∷ little_bytes 4 h.library
          ∷ little_bytes 4 h.genre ∷ little_bytes 4 h.morphology ∷ [])),
    )

length-preset_end : (at : ℕ) → length (preset_head_bytes (preset_end at)) ≡ 38
unfolding EOP
length-preset_end at = length-preset_head (preset_end at) refl

pub length_phdr : (b : Parts) → IsValid b
    → length (flat_map preset_head_bytes (tables_of b).phdr) ≡ (length b.presets + 1) * 38
length_phdr b v =
    ap (λ (hs : List PresetHead). length (flat_map preset_head_bytes hs)) (phdr-is b)
    ∙ length-heads preset_head_bytes presets 38 (IsPreset (length b.instruments))
    (λ at x v. length-preset_head (preset_written at x.head) (length-filled x.head.name v.name.0)) length-preset_end
    0 b.presets v.presets

-- the headers of the borrowed presets are those of the table
pub phdr-borrowed : (b : Parts) (owners : List (ZoneOwner Head)) → owners ≡ b.presets
    → flat_map preset_head_bytes (heads_from presets 0 owners) ≡ flat_map preset_head_bytes (tables_of b).phdr
phdr-borrowed b owners e =
    ap (λ (ps : List (ZoneOwner Head)). flat_map preset_head_bytes (heads_from presets 0 ps)) e
    ∙ ap (flat_map preset_head_bytes) (sym (phdr-is b))

pub phdr-even : (b : Parts) → IsValid b → length (flat_map preset_head_bytes (tables_of b).phdr) % 2 ≡ 0
phdr-even b v = omega (arith, length_phdr b v)

-- ---- instruments

pub inst-is : (b : Parts) → (tables_of b).inst ≡ heads_from instruments 0 b.instruments
unfolding tables_of
inst-is b = refl

length-instrument_head : (h : InstrumentHead) → length h.name ≡ 20 → length (instrument_head_bytes h) ≡ 22
unfolding instrument_head_bytes
length-instrument_head h e = omega (arith, e, length-append h.name (concat (little_bytes 2 h.bag ∷ [])))

length-instrument_end : (at : ℕ) → length (instrument_head_bytes (instrument_end at)) ≡ 22
unfolding EOI
length-instrument_end at = length-instrument_head (instrument_end at) refl

pub length_inst : (b : Parts) → IsValid b
    → length (flat_map instrument_head_bytes (tables_of b).inst) ≡ (length b.instruments + 1) * 22
length_inst b v =
    ap (λ (hs : List InstrumentHead). length (flat_map instrument_head_bytes hs)) (inst-is b)
    ∙ length-heads instrument_head_bytes instruments 22 (IsInstrument (length b.samples))
    (λ at x v. length-instrument_head (instrument_written at x.head) (length-filled x.head v.name.0))
    length-instrument_end 0 b.instruments v.instruments

pub inst-borrowed : (b : Parts) (owners : List (ZoneOwner (List ℕ))) → owners ≡ b.instruments
    → flat_map instrument_head_bytes (heads_from instruments 0 owners)
    ≡ flat_map instrument_head_bytes (tables_of b).inst
inst-borrowed b owners e =
    ap (λ (is : List (ZoneOwner (List ℕ))). flat_map instrument_head_bytes (heads_from instruments 0 is)) e
    ∙ ap (flat_map instrument_head_bytes) (sym (inst-is b))

pub inst-even : (b : Parts) → IsValid b → length (flat_map instrument_head_bytes (tables_of b).inst) % 2 ≡ 0
inst-even b v = omega (arith, length_inst b v)
