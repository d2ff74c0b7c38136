-- Reading the tables of a bank returns its presets and instruments, with all counts zero.
use Rattle.std.proofs.Common.{◌≡◌, ◌+◌, ◌-◌, ℕ, suc, List, [], ◌∷◌, length, map, refl, ap, ◌∙◌, arith}
use Rattle.std.specs.Prelude.{sum_by}
use Rattle.std.specs.List.{AllByRecursion}
use Rattle.std.proofs.lemmas.List.{length-map, map-id}
use Rattle.sf_base.specs.Names.{IsName}
use Rattle.generators.specs.declared.level.Level.{Level}
use Rattle.generators.specs.declared.level.Level.TheVariants as level
use Rattle.modulators.specs.declared.modulator.Modulator.{Modulator}
use Rattle.bank_parts.specs.Valid.{AreZones, IsOwner, IsPreset, IsInstrument, IsValid}
use Rattle.bank_parts.specs.declared.parts.GlobalZone.{GlobalZone}
use Rattle.bank_parts.specs.declared.parts.Zone.{Zone}
use Rattle.bank_parts.specs.declared.parts.Head.{Head}
use Rattle.bank_parts.specs.declared.parts.ZoneOwner.{ZoneOwner}
use Rattle.bank_parts.specs.declared.parts.Parts.{Parts}
use Rattle.hydra_records.specs.declared.zone.Bag.{Bag}
use Rattle.hydra_records.specs.declared.zone.Generator.{Generator}
use Rattle.bank_format.specs.Windows.{ends, starts, windows, zip_with, without_terminal}
use Rattle.bank_format.specs.Zones.{Bagged, bags_written, ignored, gens_dropped, repaired_range_count}
use Rattle.bank_format.specs.Tables.{bag, bag_list, gen_list, mod_list, generator_end, modulator_end, bags_of}
use Rattle.bank_format.specs.Tables.{all_bags, Headers, presets, instruments, heads_from, tables_of}
use Rattle.bank_format.specs.Reading.{bagged, bags_in, preset_windows, instrument_windows, owner_read}
use Rattle.bank_format.proofs.CountLaws.{sum-none_by}
use Rattle.bank_format.proofs.NameLaws.{before_zero-filled}
use Rattle.bank_format.proofs.WindowLaws.{sizes, windows-again, windows-all, length-starts, map-together_left}
use Rattle.bank_format.proofs.WindowLaws.{map-together_right, zip_with-maps, zip_with-take}
use Rattle.bank_format.proofs.HeaderLaws.{Again, header-again}

-- ---- bags

abbrev pub gens_in_bag : Bagged → List Generator
gens_in_bag r = r.gens

abbrev pub mods_in_bag : Bagged → List Modulator
mods_in_bag r = r.mods

pub gen_indexes : (bags : List Bagged) → map (λ (r : Bag). r.gens) (bag_list bags) ≡ starts (sizes gens_in_bag bags)
unfolding bag_list
gen_indexes bags =
    map-together_left bag (λ (r : Bag). r.gens) (λ x y. refl) (starts (sizes gens_in_bag bags))
    (starts (sizes mods_in_bag bags))
    (let a = length-starts gens_in_bag bags in let b = length-starts mods_in_bag bags in omega (arith, a, b))

pub mod_indexes : (bags : List Bagged) → map (λ (r : Bag). r.mods) (bag_list bags) ≡ starts (sizes mods_in_bag bags)
unfolding bag_list
mod_indexes bags =
    map-together_right bag (λ (r : Bag). r.mods) (λ x y. refl) (starts (sizes gens_in_bag bags))
    (starts (sizes mods_in_bag bags))
    (let a = length-starts gens_in_bag bags in let b = length-starts mods_in_bag bags in omega (arith, a, b))

-- the bags of the three tables
bags-again : (bags : List Bagged) → bags_in (bag_list bags) (gen_list bags) (mod_list bags) ≡ bags
unfolding bags_in gen_list mod_list
bags-again bags =
    let gens : windows (gen_list bags) (map (λ (r : Bag). r.gens) (bag_list bags)) ≡ map gens_in_bag bags =
    ap (windows (gen_list bags)) (gen_indexes bags) ∙ windows-again gens_in_bag bags (generator_end ∷ []) in
    let mods : windows (mod_list bags) (map (λ (r : Bag). r.mods) (bag_list bags)) ≡ map mods_in_bag bags =
    ap (windows (mod_list bags)) (mod_indexes bags) ∙ windows-again mods_in_bag bags (modulator_end ∷ []) in
    (λ i. zip_with bagged (gens i) (mods i)) ∙ zip_with-maps bagged gens_in_bag mods_in_bag bags ∙ map-id bags

-- ---- headers

pub length-heads : {H R : Type 0} (h : Headers H R) (at : ℕ) (xs : List (ZoneOwner H))
    → length (heads_from h at xs) ≡ suc (length xs)
length-heads h at [] = refl
length-heads h at (x ∷ xs) = ap suc (length-heads h (at + length (bags_of h.level x)) xs)

module _ {H R : Type 0} (h : Headers H R) (written : (n : ℕ) (x : H) → h.first_bag (h.written n x) ≡ n)
    (last : (n : ℕ) → h.first_bag (h.last n) ≡ n) where
  abbrev own_bags : ZoneOwner H → List Bagged
  own_bags x = bags_of h.level x

  pub head_indexes : (at : ℕ) (xs : List (ZoneOwner H))
      → map h.first_bag (heads_from h at xs) ≡ at ∷ ends at (sizes own_bags xs)
  head_indexes at [] = λ i. last at i ∷ []
  head_indexes at (x ∷ xs) = λ i. written at x.head i ∷ head_indexes (at + length (own_bags x)) xs i

  -- the windows of the headers
  pub windows_are_bags : (xs : List (ZoneOwner H))
      → windows
      (bags_in (bag_list (all_bags h.level xs)) (gen_list (all_bags h.level xs))
      (mod_list (all_bags h.level xs)))
      (map h.first_bag (heads_from h 0 xs))
      ≡ map own_bags xs
  windows_are_bags xs =
      (λ i. windows (bags-again (all_bags h.level xs) i) (head_indexes 0 xs i)) ∙ windows-all own_bags xs

  module _ (name_of : H → List ℕ) (again : (n : ℕ) (x : H) → IsName (name_of x) → h.read (h.written n x) ≡ x) where
    owner-again : (targets at : ℕ) (x : ZoneOwner H) → IsOwner name_of h.level targets x
        → owner_read h (h.written at x.head) (own_bags x) ≡ x
    owner-again targets at x v =
        let zones = header-again h.level targets x.global x.zones v.zones in
        λ i. record { head = again at x.head v.name i; global = zones.global i; zones = zones.zones i }

    owners-again : (targets at : ℕ) (xs : List (ZoneOwner H)) → AllByRecursion (IsOwner name_of h.level targets) xs
        → zip_with (owner_read h) (heads_from h at xs) (map own_bags xs) ≡ xs
    owners-again targets at [] v = refl
    owners-again targets at (x ∷ xs) v =
        λ i. owner-again targets at x v.0 i ∷ owners-again targets (at + length (own_bags x)) xs v.1 i

    pub all_owners-again : (targets : ℕ) (xs : List (ZoneOwner H)) (ws : List (List Bagged)) → ws ≡ map own_bags xs
        → AllByRecursion (IsOwner name_of h.level targets) xs
        → zip_with (owner_read h) (without_terminal (heads_from h 0 xs)) ws ≡ xs
    all_owners-again targets xs ws e v =
        let heads = heads_from h 0 xs in
        let l = length-heads h 0 xs in
        let m = length-map xs own_bags in
        ap (zip_with (owner_read h) (without_terminal heads)) e
        ∙ zip_with-take (owner_read h) (length heads - 1) heads (map own_bags xs) (omega (arith, l, m))
        ∙ owners-again targets 0 xs v

-- ---- presets, then instruments

preset_windows-again : (b : Parts) → preset_windows (tables_of b) ≡ map (bags_of level.Preset) b.presets
unfolding preset_windows tables_of
preset_windows-again b = windows_are_bags presets (λ n x. refl) (λ n. refl) b.presets

instrument_windows-again : (b : Parts) → instrument_windows (tables_of b) ≡ map (bags_of level.Inst) b.instruments
unfolding instrument_windows tables_of
instrument_windows-again b = windows_are_bags instruments (λ n x. refl) (λ n. refl) b.instruments

preset-again : (n : ℕ) (x : Head) → IsName x.name → presets.read (presets.written n x) ≡ x
preset-again n x v = let name = before_zero-filled x.name v in λ i. record x { name = name i }

pub all_presets-again : (b : Parts) → IsValid b
    → zip_with (owner_read presets) (without_terminal (tables_of b).phdr) (preset_windows (tables_of b)) ≡ b.presets
unfolding tables_of
all_presets-again b v =
    all_owners-again presets (λ n x. refl) (λ n. refl) (λ (x : Head). x.name) preset-again (length b.instruments)
    b.presets _ (preset_windows-again b) v.presets

pub all_instruments-again : (b : Parts) → IsValid b
    → zip_with (owner_read instruments) (without_terminal (tables_of b).inst) (instrument_windows (tables_of b)) ≡ b.instruments
unfolding tables_of
all_instruments-again b v =
    all_owners-again instruments (λ n x. refl) (λ n. refl) (λ name. name) (λ n. before_zero-filled)
    (length b.samples) b.instruments _ (instrument_windows-again b) v.instruments

-- ---- all counts are zero

module _ (f : Level → List Bagged → ℕ)
    (h : (at : Level) (n : ℕ) (g : GlobalZone) (zs : List Zone) → Again at n (bags_written at g zs) g zs
    → f at (bags_written at g zs) ≡ 0)
  where
    none_written : (at : Level) (n : ℕ) (g : GlobalZone) (zs : List Zone) → AreZones at n g zs
        → f at (bags_written at g zs) ≡ 0
    none_written at n g zs v = h at n g zs (header-again at n g zs v)

    -- a sum over headers, each of whose bags counts zero
    counted_none : (b : Parts) → IsValid b
        → sum_by (f level.Preset) (preset_windows (tables_of b))
        + sum_by (f level.Inst) (instrument_windows (tables_of b))
        ≡ 0
    counted_none b v =
        let n = length b.instruments in
        let k = length b.samples in
        let p =
        ap (sum_by (f level.Preset)) (preset_windows-again b)
        ∙ sum-none_by (IsPreset n) (f level.Preset) (bags_of level.Preset)
        (λ p q. none_written level.Preset n p.global p.zones q.zones) b.presets v.presets in
        let i =
        ap (sum_by (f level.Inst)) (instrument_windows-again b)
        ∙ sum-none_by (IsInstrument k) (f level.Inst) (bags_of level.Inst)
        (λ i q. none_written level.Inst k i.global i.zones q.zones) b.instruments v.instruments in
        omega (arith, p, i)

pub zones_counted : (b : Parts) → IsValid b
    → sum_by (ignored level.Preset) (preset_windows (tables_of b))
    + sum_by (ignored level.Inst) (instrument_windows (tables_of b))
    ≡ 0
zones_counted = counted_none ignored (λ at n g zs a. a.ignored)

pub gens_counted : (b : Parts) → IsValid b
    → sum_by (gens_dropped level.Preset) (preset_windows (tables_of b))
    + sum_by (gens_dropped level.Inst) (instrument_windows (tables_of b))
    ≡ 0
gens_counted = counted_none gens_dropped (λ at n g zs a. a.dropped)

pub ranges_counted : (b : Parts) → IsValid b
    → sum_by (repaired_range_count level.Preset) (preset_windows (tables_of b))
    + sum_by (repaired_range_count level.Inst) (instrument_windows (tables_of b))
    ≡ 0
ranges_counted = counted_none repaired_range_count (λ at n g zs a. a.repaired)
