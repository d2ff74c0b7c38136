-- The edits of a kit are in range.
use Rattle.std.proofs.Common.{◌≡◌, ◌≤◌, ◌<◌, ◌+◌, ◌-◌, ◌*◌, ◌++◌, ◌==◌, ◌&&◌, ℕ, ℤ, zero, suc, pos, negsuc, Bool, true, false}
use Rattle.std.proofs.Common.{if◌then◌else◌, cond, nat_le, List, [], ◌∷◌, length, map, decimal, get_or}
use Rattle.std.proofs.Common.{slice_get, Option, Some, None, Ok, Err, FitsSigned, refl, subst, arith}
use Rattle.std.specs.Prelude.{◌^◌, ◌+ℤ◌, int_lt, unwrap_or}
use Rattle.std.specs.Int.{w16, cast_unsigned}
use Rattle.std.specs.List.{AllByRecursion, find, range_with_len}
use Rattle.std.specs.Option.{option_map, option_map_or, option_or}
use Rattle.std.proofs.lemmas.Bool.{leb-true, ltb-false}
use Rattle.std.proofs.lemmas.Int.{ints}
use Rattle.sf_base.specs.declared.limits.TheConstants.{SAMPLES}
use Rattle.sf_base.specs.Names.{IsName, IsTextByte}
use Rattle.hydra_records.specs.Records.{AreBytes}
use Rattle.generators.specs.Gens.{Gens, no_gens, set_in_order, FitsEntry, FitEntries, FitGens}
use Rattle.generators.specs.declared.range.Range.{Range}
use Rattle.generators.specs.declared.operators.TheConstants.{KEY_RANGE, VEL_RANGE, OVERRIDING_ROOT_KEY, PAN}
use Rattle.generators.specs.declared.operators.TheConstants.{SAMPLE_MODES, EXCLUSIVE_CLASS}
use Rattle.generators.proofs.EntryLaws.{All-no_gens, All-insert}
use Rattle.std.specs.FinMap.{insert}
use Rattle.bank_parts.specs.declared.parts.Parts.{Parts}
use Rattle.bank_parts.specs.Fits.{FitsZone}
use Rattle.bank_parts.specs.Valid.{IsValid}
use Rattle.bank_format.proofs.AllLaws.{all-append, all-flat_map}
use Rattle.edit_forms.specs.declared.edit.Edit.{Edit}
use Rattle.edit_forms.specs.Fits.{FitsEdit}
use Rattle.wave_file.specs.Imports.{import_edits}
use Rattle.wave_file.proofs.FitLaws.{FitsRecording, imports_fit}
use Rattle.wave_file.proofs.ImportLaws.{truncated_text}
use Rattle.kit_tables.specs.declared.zone.KitZone.{KitZone}
use Rattle.plan_presets.specs.declared.fault.PresetFault.TheVariants.{InUse}
use Rattle.plan_presets.specs.declared.numbers.PresetNumbers.{PresetNumbers}
use Rattle.kit_edits.specs.declared.kit.KitRecording.{KitRecording}
use Rattle.kit_edits.specs.declared.kit.KitMembers.{KitMembers}
use Rattle.kit_edits.specs.declared.kit.KitPreset.{KitPreset}
use Rattle.kit_edits.specs.declared.names.TheConstants.{CANDIDATES}
use Rattle.kit_edits.specs.declared.numbers.Numbered.{Numbered}
use Rattle.kit_edits.specs.declared.settings.TheConstants.{LEFT, RIGHT, LOOPED}
use Rattle.kit_edits.specs.Fits.{FitsByte, FitsPan, FitsRange, FitsKitZone, FitsPreset, FitsMaybe, FitMembers}
use Rattle.kit_edits.specs.Names.{own_length, truncated, mark, candidate, candidates, free_name, is_free}
use Rattle.kit_edits.specs.Numbers.{is_stereo, sample_count, all_numbered, have_room, name_of, used_after}
use Rattle.kit_edits.specs.Numbers.{sample_edits}
use Rattle.kit_edits.specs.Zones.{setting, range_amount, root_of, settings, left_pan, right_pan, zone_of}
use Rattle.kit_edits.specs.Zones.{recording_zones, row_zones}
use Rattle.kit_edits.specs.Appending.{no_names}
use Rattle.kit_edits.specs.Members.{instrument_edit, preset_edits, member_edits, numbers_in_use}
use Rattle.kit_edits.specs.Kits.{all_edits, kit_edits}
use Rattle.kit_edits.proofs.NameLaws.{digits_text}

-- ---- what is given

pub record FitsKitRecording (r : KitRecording) : Type 0 where
  pub stem : AreBytes r.stem.now
  pub recording : FitsRecording r.recording

-- ---- names

text_byte : (xs : List ℕ) (k d : ℕ) → AllByRecursion IsTextByte xs → k < length xs → get_or xs k d < 256
text_byte [] k d h lt = absurd (omega (arith, lt))
text_byte (x ∷ xs) zero d h lt = h.0.1
text_byte (x ∷ xs) (suc k) d h lt = text_byte xs k d h.1 (omega (arith, lt))

text_bytes : (xs : List ℕ) → AllByRecursion IsTextByte xs → AreBytes xs
text_bytes xs h = λ k d lt. text_byte xs k d h lt

candidate_text : (n : ℕ) (stem : List ℕ) (k : ℕ) → AreBytes stem → 0 < k → k ≤ 99999
    → AllByRecursion IsTextByte (candidate n stem k)
candidate_text n stem k b some few = by_test (k == 1)
  where
    by_test : (t : Bool)
        → AllByRecursion IsTextByte
        (if t then truncated n stem else truncated (n - length (mark k)) stem ++ mark k)
    by_test true = (truncated_text n stem b).1
    by_test false =
        all-append IsTextByte (truncated (n - length (mark k)) stem) (mark k)
        (truncated_text (n - length (mark k)) stem b).1
        ((omega arith, omega arith), (digits_text k (decimal k) some few refl).0.1)

found_among : (P : List ℕ → Type 0) (test : List ℕ → Bool) (f : ℕ → List ℕ) (other : List ℕ) (a n : ℕ)
    → ((k : ℕ) → 0 < k → k ≤ 99999 → P (f k)) → P other → 0 < a → a + n ≤ 100000
    → P (unwrap_or (find test (map f (range_with_len a n))) other)
found_among P test f other a zero h o some most = o
found_among P test f other a (suc n) h o some most =
    by_test (test (f a)) (found_among P test f other (a + 1) n h o (omega arith) (omega (arith, most)))
  where
    by_test : (t : Bool) → P (unwrap_or (find test (map f (range_with_len (a + 1) n))) other)
        → P (unwrap_or (cond t (Some (f a)) (find test (map f (range_with_len (a + 1) n)))) other)
    by_test true later = h a some (omega (arith, most))
    by_test false later = later

free_text : (used : List ℕ → Bool) (s : Bool) (stem : List ℕ) → AreBytes stem
    → AllByRecursion IsTextByte (free_name used s stem)
unfolding candidates
free_text used s stem b =
    found_among (AllByRecursion IsTextByte) (is_free used s) (candidate (own_length s) stem)
    (candidate (own_length s) stem 1) 1 CANDIDATES (λ k some few. candidate_text (own_length s) stem k b some few)
    (candidate_text (own_length s) stem 1 b (omega arith) (omega arith)) (omega arith) (omega arith)

-- ---- samples

samples_fit : (n : ℕ) (used : List ℕ → Bool) (rs : List KitRecording) → n ≤ SAMPLES
    → AllByRecursion FitsKitRecording rs → AllByRecursion FitsEdit (sample_edits n used rs)
samples_fit n used [] most f = tt
samples_fit n used (r ∷ rs) most f =
    all-append FitsEdit (import_edits n (name_of used r) r.recording)
    (if nat_le (n + sample_count r) SAMPLES then sample_edits (n + sample_count r) (used_after used r) rs else [])
    (imports_fit n (name_of used r) r.recording most
    (text_bytes (name_of used r) (free_text used (is_stereo r) r.stem.now f.0.stem)) f.0.recording)
    (by_test (nat_le (n + sample_count r) SAMPLES) refl
    (λ e. samples_fit (n + sample_count r) (used_after used r) rs (leb-true (n + sample_count r) SAMPLES e) f.1))
  where
    by_test : (t : Bool) → nat_le (n + sample_count r) SAMPLES ≡ t
        → (nat_le (n + sample_count r) SAMPLES ≡ true
        → AllByRecursion FitsEdit (sample_edits (n + sample_count r) (used_after used r) rs))
        → AllByRecursion FitsEdit
        (if t then sample_edits (n + sample_count r) (used_after used r) rs else [])
    by_test true e later = later e
    by_test false e later = tt

pub record FitsNumbered (r : Numbered) : Type 0 where
  pub left : r.left < 2 ^ 16
  pub right : r.right < 2 ^ 16

both_true : (a b : Bool) → (if a then b else false) ≡ true → (a ≡ true) × (b ≡ true)
both_true true b h = (refl, h)
both_true false b h = absurd cc

sides_fit : (n : ℕ) (s : Bool) → n + (if s then 2 else 1) ≤ SAMPLES
    → (n < 2 ^ 16) × ((if s then n + 1 else n) < 2 ^ 16)
sides_fit n true h = (omega (arith, h), omega (arith, h))
sides_fit n false h = (omega (arith, h), omega (arith, h))

numbers_fit : (n : ℕ) (rs : List KitRecording) → have_room n rs ≡ true
    → AllByRecursion FitsNumbered (all_numbered n rs)
numbers_fit n [] h = tt
numbers_fit n (r ∷ rs) h =
    let both = both_true (nat_le (n + sample_count r) SAMPLES) (have_room (n + sample_count r) rs) h in
    let sides = sides_fit n (is_stereo r) (leb-true (n + sample_count r) SAMPLES both.0) in
    (record { left = sides.0; right = sides.1 }, numbers_fit (n + sample_count r) rs both.1)

-- ---- zones

abbrev FitsAmount : Option ℕ → Type 0
FitsAmount None = Unit {0}
FitsAmount (Some n) = n < 2 ^ 16

setting_fits : (op : ℕ) (o : Option ℕ) → op < 2 ^ 16 → FitsAmount o → AllByRecursion FitsEntry (setting op o)
setting_fits op None small f = tt
setting_fits op (Some n) small f = ((small, f), tt)

range_fits : (r : Range) → FitsRange r → FitsAmount (range_amount r)
range_fits r f = by_test (r.low == 0 && r.high == 127)
  where
    by_test : (t : Bool) → FitsAmount (if t then None else Some (r.low + 256 * r.high))
    by_test true = tt
    by_test false = let low = f.low in let high = f.high in omega (arith, low, high)

byte_fits : (o : Option ℕ) → FitsByte o → FitsAmount o
byte_fits None f = tt
byte_fits (Some n) f = omega (arith, f)

root_fits : (z : KitZone) → FitsKitZone z → FitsAmount (root_of z)
root_fits z f = by_root z.root f.root (z.keys.low == z.keys.high)
  where
    by_root : (o : Option ℕ) → FitsByte o → (t : Bool)
        → FitsAmount (option_or o (if t then Some z.keys.low else None))
    by_root (Some n) h t = omega (arith, h)
    by_root None h true = let low = f.keys.low in omega (arith, low)
    by_root None h false = tt

pan_fits : (o : Option ℤ) → FitsPan o → FitsAmount (option_map (cast_unsigned w16) o)
pan_fits None f = tt
pan_fits (Some (pos n)) f = let small = f.sfits in omega (arith, small)
pan_fits (Some (negsuc n)) f = omega arith

mode_fits : (t : Bool) → FitsAmount (if t then Some LOOPED else None)
mode_fits true = omega arith
mode_fits false = tt

settings_fit : (z : KitZone) (pan : Option ℤ) (t : Bool) → FitsKitZone z → FitsPan pan → FitEntries (settings z pan t)
settings_fit z pan t f p =
    let keys = setting_fits KEY_RANGE (range_amount z.keys) (omega arith) (range_fits z.keys f.keys) in
    let velocities =
    setting_fits VEL_RANGE (range_amount z.velocities) (omega arith) (range_fits z.velocities f.velocities) in
    let root = setting_fits OVERRIDING_ROOT_KEY (root_of z) (omega arith) (root_fits z f) in
    let panned = setting_fits PAN (option_map (cast_unsigned w16) pan) (omega arith) (pan_fits pan p) in
    let mode = setting_fits SAMPLE_MODES (if t then Some LOOPED else None) (omega arith) (mode_fits t) in
    let class = setting_fits EXCLUSIVE_CLASS z.class (omega arith) (byte_fits z.class f.class) in
    all-append FitsEntry _ _
    (all-append FitsEntry _ _
    (all-append FitsEntry _ _ (all-append FitsEntry _ _ (all-append FitsEntry _ _ keys velocities) root) panned) mode)
    class

set_fit : (m : Gens) (es : List (ℕ × ℕ)) → FitGens m → FitEntries es → FitGens (set_in_order m es)
set_fit m [] g f = g
set_fit m (e ∷ es) g f = set_fit (insert m e.0 e.1) es (All-insert FitsEntry m e.0 e.1 f.0 g) f.1

zone_fits : (target : ℕ) (z : KitZone) (pan : Option ℤ) (t : Bool) → target < 2 ^ 16 → FitsKitZone z → FitsPan pan
    → FitsZone (zone_of target z pan t)
zone_fits target z pan t small f p = record {
  target = small;
  gens = set_fit no_gens (settings z pan t) (All-no_gens FitsEntry) (settings_fit z pan t f p);
  mods = tt;
}

above_value : (z : ℤ) (n : ℕ) → z ≡ pos n +ℤ LEFT → n < 2 ^ 15 → FitsSigned w16 z
above_value (pos m) n e small = record { sfits = omega (arith, ints, e, small) }
above_value (negsuc m) n e small = record { sfits = omega (arith, ints, e, small) }

above_fits : (n : ℕ) → n < 2 ^ 15 → FitsSigned w16 (pos n +ℤ LEFT)
above_fits n small = above_value (pos n +ℤ LEFT) n refl small

below_value : (z : ℤ) (n : ℕ) → z ≡ negsuc n +ℤ RIGHT → n < 2 ^ 15 → FitsSigned w16 z
below_value (pos m) n e small = record { sfits = omega (arith, ints, e, small) }
below_value (negsuc m) n e small = record { sfits = omega (arith, ints, e, small) }

below_fits : (n : ℕ) → n < 2 ^ 15 → FitsSigned w16 (negsuc n +ℤ RIGHT)
below_fits n small = below_value (negsuc n +ℤ RIGHT) n refl small

left_fits : (pan : Option ℤ) → FitsPan pan → FitsSigned w16 (left_pan pan)
left_fits None f = record { sfits = omega arith }
left_fits (Some (pos n)) f = by_test (int_lt (pos 0) (pos n)) (above_fits n f.sfits)
  where
    by_test : (t : Bool) → FitsSigned w16 (pos n +ℤ LEFT) → FitsSigned w16 (cond t (pos n) (pos 0) +ℤ LEFT)
    by_test true above = above
    by_test false above = record { sfits = omega arith }
left_fits (Some (negsuc n)) f = record { sfits = omega arith }

right_fits : (pan : Option ℤ) → FitsPan pan → FitsSigned w16 (right_pan pan)
right_fits None f = record { sfits = omega arith }
right_fits (Some (pos n)) f = by_test (int_lt (pos 0) (pos n)) refl
  where
    by_test : (t : Bool) → int_lt (pos 0) (pos n) ≡ t → FitsSigned w16 (cond t (pos 0) (pos n) +ℤ RIGHT)
    by_test true e = record { sfits = omega arith }
    by_test false e = let none = ltb-false 0 n e in record { sfits = omega (arith, ints, none) }
right_fits (Some (negsuc n)) f = below_fits n f.sfits

recording_fits : (z : KitZone) (r : Numbered) → FitsKitZone z → FitsNumbered r
    → AllByRecursion FitsZone (recording_zones z r)
recording_fits z r f n = by_test r.is_stereo
  where
    by_test : (t : Bool)
        → AllByRecursion FitsZone
        (if t
        then zone_of r.left z (Some (left_pan z.pan)) r.is_looped
        ∷ zone_of r.right z (Some (right_pan z.pan)) r.is_looped ∷ []
        else zone_of r.left z z.pan r.is_looped ∷ [])
    by_test true = (
      zone_fits r.left z (Some (left_pan z.pan)) r.is_looped n.left f (left_fits z.pan f.pan),
      (zone_fits r.right z (Some (right_pan z.pan)) r.is_looped n.right f (right_fits z.pan f.pan), tt),
    )
    by_test false = (zone_fits r.left z z.pan r.is_looped n.left f f.pan, tt)

row_fits : (recordings : List Numbered) (i : ℕ) (z : KitZone) → AllByRecursion FitsNumbered recordings → FitsKitZone z
    → AllByRecursion FitsZone (option_map_or (recording_zones z) (slice_get recordings i) [])
row_fits [] i z n f = tt
row_fits (r ∷ rs) zero z n f = recording_fits z r f n.0
row_fits (r ∷ rs) (suc i) z n f = row_fits rs i z n.1 f

-- ---- members

preset_edits_fit : (b : Parts) (preset : Option KitPreset) → IsValid b → FitsMaybe FitsPreset preset
    → AllByRecursion FitsEdit (preset_edits b preset)
preset_edits_fit b None v f = tt
preset_edits_fit b (Some p) v f =
    let presets = v.limits.presets in
    let instruments = v.limits.instruments in (
      (
        omega (arith, presets),
        record {
          head =
              record {
                name = f.name;
                number = f.number;
                bank = f.bank;
                library = omega arith;
                genre = omega arith;
                morphology = omega arith;
              };
          global = record { gens = All-no_gens FitsEntry; mods = tt };
          zones =
              (record { target = omega (arith, instruments); gens = All-no_gens FitsEntry; mods = tt }, tt);
        },
      ),
      tt,
    )

members_fit : (b : Parts) (recordings : List Numbered) (rows : List (ℕ × KitZone)) (instrument : Option (List ℕ))
    (preset : Option KitPreset)
    → IsValid b → AllByRecursion FitsNumbered recordings
    → AllByRecursion (λ (row : ℕ × KitZone). FitsKitZone row.1) rows → FitsMaybe IsName instrument
    → FitsMaybe FitsPreset preset
    → AllByRecursion FitsEdit
    (option_map_or
    (λ (name : List ℕ). instrument_edit (length b.instruments) name recordings rows ∷ preset_edits b preset)
    instrument [])
members_fit b recordings rows None preset v n z named p = tt
members_fit b recordings rows (Some name) preset v n z named p =
    let instruments = v.limits.instruments in (
      (
        omega (arith, instruments),
        record {
          head = named;
          global = record { gens = All-no_gens FitsEntry; mods = tt };
          zones =
              all-flat_map FitsZone (λ (row : ℕ × KitZone). FitsKitZone row.1) (row_zones recordings)
              (λ row f. row_fits recordings row.0 row.1 n f) rows z;
        },
      ),
      preset_edits_fit b preset v p,
    )

all_edits_fit : (b : Parts) (rs : List KitRecording) (rows : List (ℕ × KitZone)) (m : KitMembers) → IsValid b
    → AllByRecursion FitsKitRecording rs → AllByRecursion (λ (row : ℕ × KitZone). FitsKitZone row.1) rows
    → FitMembers m → AllByRecursion FitsEdit (all_edits b rs rows m)
all_edits_fit b rs rows m v r z f =
    all-append FitsEdit (sample_edits (length b.samples) no_names rs) _
    (samples_fit (length b.samples) no_names rs v.limits.samples r)
    (by_test (have_room (length b.samples) rs) refl)
  where
    by_test : (t : Bool) → have_room (length b.samples) rs ≡ t
        → AllByRecursion FitsEdit
        (if t then member_edits b (all_numbered (length b.samples) rs) rows m else [])
    by_test true e =
        members_fit b (all_numbered (length b.samples) rs) rows m.instrument m.preset v
        (numbers_fit (length b.samples) rs e) z f.instrument f.preset
    by_test false e = tt

pub kits_fit : (b : Parts) (rs : List KitRecording) (rows : List (ℕ × KitZone)) (m : KitMembers) (edits : List Edit)
    → IsValid b → AllByRecursion FitsKitRecording rs → AllByRecursion (λ (row : ℕ × KitZone). FitsKitZone row.1) rows
    → FitMembers m → kit_edits b rs rows m ≡ Ok edits → AllByRecursion FitsEdit edits
unfolding kit_edits
kits_fit b rs rows m edits v r z f h = by_numbers (numbers_in_use b m) h
  where
    by_numbers : (o : Option PresetNumbers)
        → option_map_or (λ (k : PresetNumbers). Err (InUse k)) o (Ok (all_edits b rs rows m)) ≡ Ok edits
        → AllByRecursion FitsEdit edits
    by_numbers None e =
        let is : all_edits b rs rows m ≡ edits = cc in
        subst (AllByRecursion FitsEdit) is (all_edits_fit b rs rows m v r z f)
    by_numbers (Some k) e = absurd cc
