-- What the record lists of a bank contain, and that the fields of each record are in range.
use Rattle.std.proofs.Common.{◌≡◌, ◌≤◌, ◌<◌, ◌+◌, ◌^◌, ℕ, true, false, eqb, List, [], ◌∷◌, ◌++◌, length, map, Option}
use Rattle.std.proofs.Common.{Some, None, refl, arith, inl, inr}
use Rattle.std.specs.Prelude.{sum_by, flat_map}
use Rattle.std.specs.List.{AllByRecursion}
use Rattle.std.specs.FinMap.{entries, len, len-entries}
use Rattle.std.proofs.lemmas.Bool.{cases_eq, eq-eqb, ne_eqb}
use Rattle.std.proofs.lemmas.List.{length-append, length-map}
use Rattle.std.proofs.lemmas.List.Sums.{sum_by-cons}
use Rattle.sf_base.specs.Names.{IsName}
use Rattle.generators.specs.Gens.{FitEntries}
use Rattle.generators.specs.Levels.{target_operator}
use Rattle.generators.specs.declared.level.Level.{Level}
use Rattle.generators.specs.declared.level.Level.TheVariants as level
use Rattle.modulators.specs.Modulators.{FitsModulator}
use Rattle.bank_parts.specs.Valid.{IsSample, IsLoop, zone_count, gen_count, mod_count, owner_total, point_total}
use Rattle.bank_parts.specs.Fits.{FitsZone, FitsGlobal, FitsHead, FitsOwner, FitsKind, FitsSample}
use Rattle.bank_parts.specs.declared.parts.Kind.{Kind}
use Rattle.bank_parts.specs.declared.parts.Kind.TheVariants.{Mono, Right, Left, Linked}
use Rattle.bank_parts.specs.declared.parts.GlobalZone.{GlobalZone}
use Rattle.bank_parts.specs.declared.parts.Zone.{Zone}
use Rattle.bank_parts.specs.declared.parts.Head.{Head}
use Rattle.bank_parts.specs.declared.parts.ZoneOwner.{ZoneOwner}
use Rattle.bank_parts.specs.declared.parts.Sample.{Sample}
use Rattle.hydra_records.specs.Fits.{FitsBag, FitsGenerator, FitsPresetHead, FitsInstrumentHead, FitsSampleHead}
use Rattle.bank_format.specs.Ids.{EOP, EOI, EOS}
use Rattle.bank_format.specs.Windows.{ends, starts, zip_with}
use Rattle.bank_format.specs.Zones.{Bagged, bags_written, generator, gens_written, zone_written}
use Rattle.bank_format.specs.Tables.{bag, bag_list, gen_list, mod_list, modulator_end, bags_of, Headers, presets}
use Rattle.bank_format.specs.Tables.{instruments, heads_from, preset_end, instrument_end, sample_end, sample_heads_from}
use Rattle.bank_format.specs.Tables.{kind_word, link_word, loop_start_at, loop_end_at}
use Rattle.bank_format.proofs.AllLaws.{all-append, all-flat_map}
use Rattle.bank_format.proofs.NameLaws.{length-filled}
use Rattle.bank_format.proofs.WindowLaws.{sizes, total}
use Rattle.bank_format.proofs.ZoneLaws.{Entries, generator_records}
use Rattle.bank_format.proofs.TableLaws.{gens_in_bag, mods_in_bag}

-- ---- totals

module _ {X : Type 0} (f : Bagged → List X) where
  pub sizes-append : (xs ys : List Bagged) → total (sizes f (xs ++ ys)) ≡ total (sizes f xs) + total (sizes f ys)
  sizes-append [] ys = omega arith
  sizes-append (x ∷ xs) ys = let r = sizes-append xs ys in omega (arith, r)

  pub total-by : {Y : Type 0} (h : Y → List Bagged) (c : Y → ℕ) → ((y : Y) → total (sizes f (h y)) ≡ c y)
      → (ys : List Y) → total (sizes f (flat_map h ys)) ≡ sum_by c ys
  total-by h c same [] = refl
  total-by h c same (y ∷ ys) =
      let a = sizes-append (h y) (flat_map h ys) in
      let r = total-by h c same ys in
      let s = same y in
      let w = sum_by-cons c y ys in
      omega (arith, a, r, s, w)

pub length-by : {X Y : Type 0} (h : Y → List X) (c : Y → ℕ) → ((y : Y) → length (h y) ≡ c y) → (ys : List Y)
    → length (flat_map h ys) ≡ sum_by c ys
length-by h c same [] = refl
length-by h c same (y ∷ ys) =
    let a = length-append (h y) (flat_map h ys) in
    let r = length-by h c same ys in
    let s = same y in
    let w = sum_by-cons c y ys in
    omega (arith, a, r, s, w)

-- the numbers of bags, generators and modulators in a list of bags
pub record Holds (bags : List Bagged) (zones gens mods : ℕ) : Type 0 where
  pub zones_are : length bags ≡ zones
  pub gens_are : total (sizes gens_in_bag bags) ≡ gens
  pub mods_are : total (sizes mods_in_bag bags) ≡ mods

module _ (at : Level) where
  zone_gens : (zs : List Zone)
      → total (sizes gens_in_bag (map (zone_written at) zs)) ≡ sum_by (λ (z : Zone). len z.gens + 1) zs
  zone_gens [] = refl
  zone_gens (z ∷ zs) =
      let r = zone_gens zs in
      let a = length-append (gens_written z.gens) (generator (target_operator at) z.target ∷ []) in
      let m = length-map (entries z.gens) (λ e. generator e.0 e.1) in
      let n = len-entries z.gens in
      let w = sum_by-cons (λ (z : Zone). len z.gens + 1) z zs in
      omega (arith, r, a, m, n, w)

  zone_mods : (zs : List Zone)
      → total (sizes mods_in_bag (map (zone_written at) zs)) ≡ sum_by (λ (z : Zone). length z.mods) zs
  zone_mods [] = refl
  zone_mods (z ∷ zs) =
      let r = zone_mods zs in let w = sum_by-cons (λ (z : Zone). length z.mods) z zs in omega (arith, r, w)

  pub holds : (g : GlobalZone) (zs : List Zone)
      → Holds (bags_written at g zs) (zone_count g zs) (gen_count g zs) (mod_count g zs)
  unfolding bags_written
  holds g zs =
      let n = len g.gens + length g.mods in
      let zg = zone_gens zs in
      let zm = zone_mods zs in
      let l = length-map zs (zone_written at) in
      let m = length-map (entries g.gens) (λ e. generator e.0 e.1) in
      let e = len-entries g.gens in
      elim (cases_eq n 0) [
        | inl none ↦
            (let t : eqb n 0 ≡ true =
            eq-eqb _ _ none in rw t
            (record {
              zones_are =
                  omega (arith, l);
              gens_are = omega (arith, none, zg);
              mods_are = omega (arith, none, zm);
            }))
        | inr some ↦
            (let t : eqb n 0 ≡ false =
            ne_eqb _ _ some in rw t
            (record {
              zones_are =
                  omega (arith, l);
              gens_are = omega (arith, zg, m, e);
              mods_are = omega (arith, zm);
            }))
      ]

-- ---- bags

small_ends : (at : ℕ) (ns : List ℕ) → at + total ns ≤ 65535 → AllByRecursion (λ n. n < 2 ^ 16) (ends at ns)
small_ends at [] h = tt
small_ends at (n ∷ ns) h = (omega arith, small_ends (at + n) ns (omega arith))

small_starts : (ns : List ℕ) → total ns ≤ 65535 → AllByRecursion (λ n. n < 2 ^ 16) (starts ns)
small_starts ns h = (omega arith, small_ends 0 ns (omega (arith, h)))

all_bags : (xs ys : List ℕ) → AllByRecursion (λ n. n < 2 ^ 16) xs → AllByRecursion (λ n. n < 2 ^ 16) ys
    → AllByRecursion FitsBag (zip_with bag xs ys)
all_bags [] ys v k = tt
all_bags (x ∷ xs) [] v k = tt
all_bags (x ∷ xs) (y ∷ ys) v k = (record { gens = v.0; mods = k.0 }, all_bags xs ys v.1 k.1)

pub bags_fit : (bags : List Bagged) → total (sizes gens_in_bag bags) ≤ 65535 → total (sizes mods_in_bag bags) ≤ 65535
    → AllByRecursion FitsBag (bag_list bags)
unfolding bag_list
bags_fit bags g m =
    all_bags (starts (sizes gens_in_bag bags)) (starts (sizes mods_in_bag bags))
    (small_starts (sizes gens_in_bag bags) g) (small_starts (sizes mods_in_bag bags) m)

-- ---- the fields of generators and modulators are in range

pub record FitsBagged (r : Bagged) : Type 0 where
  pub gens : AllByRecursion FitsGenerator r.gens
  pub mods : AllByRecursion FitsModulator r.mods

generator_records_fit : (es : Entries) → FitEntries es → AllByRecursion FitsGenerator (generator_records es)
generator_records_fit [] v = tt
generator_records_fit (e ∷ es) v = (record { operator = v.0.0; amount = v.0.1 }, generator_records_fit es v.1)

small_target : (at : Level) → target_operator at < 2 ^ 16
small_target level.Preset = omega arith
small_target level.Inst = omega arith

zones_fit : (at : Level) (zs : List Zone) → AllByRecursion FitsZone zs
    → AllByRecursion FitsBagged (map (zone_written at) zs)
zones_fit at [] v = tt
zones_fit at (z ∷ zs) v = (
  record {
    gens =
        all-append FitsGenerator _ _ (generator_records_fit (entries z.gens) v.0.gens)
        (record { operator = small_target at; amount = v.0.target }, tt);
    mods =
        v.0.mods;
  },
  zones_fit at zs v.1,
)

pub written_fit : (at : Level) (g : GlobalZone) (zs : List Zone) → FitsGlobal g → AllByRecursion FitsZone zs
    → AllByRecursion FitsBagged (bags_written at g zs)
unfolding bags_written
written_fit at g zs vg v =
    elim (cases_eq (len g.gens + length g.mods) 0) [
      | inl none ↦ (let t : eqb (len g.gens + length g.mods) 0 ≡ true = eq-eqb _ _ none in rw t (zones_fit at zs v))
      | inr some ↦
          (let t : eqb (len g.gens + length g.mods) 0 ≡ false =
          ne_eqb _ _ some in rw t
          (record { gens = generator_records_fit (entries g.gens) vg.gens; mods = vg.mods }, zones_fit at zs v))
    ]

pub gen_list_fit : (bags : List Bagged) → AllByRecursion FitsBagged bags → AllByRecursion FitsGenerator (gen_list bags)
unfolding gen_list
gen_list_fit bags v =
    all-append FitsGenerator _ _
    (all-flat_map FitsGenerator FitsBagged (λ (r : Bagged). r.gens) (λ r w. w.gens) bags v)
    (record { operator = omega arith; amount = omega arith }, tt)

-- the terminal modulator
pub modulator_end_fits : FitsModulator modulator_end
modulator_end_fits =
    record {
      source =
          omega arith;
      dest =
          omega arith;
      amount =
          record { sfits = omega arith };
      amount_source = omega arith;
      transform = omega arith;
    }

pub mod_list_fit : (bags : List Bagged) → AllByRecursion FitsBagged bags → AllByRecursion FitsModulator (mod_list bags)
unfolding mod_list
mod_list_fit bags v =
    all-append FitsModulator _ _
    (all-flat_map FitsModulator FitsBagged (λ (r : Bagged). r.mods) (λ r w. w.mods) bags v) (modulator_end_fits, tt)

-- ---- heads

ends_fit : (at : ℕ) → at < 2 ^ 16
    → FitsPresetHead (preset_end at) × FitsInstrumentHead (instrument_end at) × FitsSampleHead sample_end
unfolding EOP EOI EOS
ends_fit at lt = (
  record {
    name =
        refl;
    number =
        omega arith;
    bank =
        omega arith;
    bag = lt;
    library = omega arith;
    genre = omega arith;
    morphology = omega arith;
  },
  record { name = refl; bag = lt },
  record {
    name =
        refl;
    start =
        omega arith;
    end =
        omega arith;
    loop_start =
        omega arith;
    loop_end =
        omega arith;
    rate =
        omega arith;
    key =
        omega arith;
    correction =
        record { sfits = omega arith };
    link = omega arith;
    kind = omega arith;
  },
)

module _ {H R : Type 0} (h : Headers H R) (IsFit : H → Type 0) (FitsRecord : R → Type 0)
    (written : (at : ℕ) (x : H) → at < 2 ^ 16 → IsFit x → FitsRecord (h.written at x))
    (last : (at : ℕ) → at < 2 ^ 16 → FitsRecord (h.last at)) where
  pub heads_fit : (at : ℕ) (xs : List (ZoneOwner H)) → AllByRecursion (FitsOwner IsFit) xs
      → at + owner_total zone_count xs ≤ 65535 → AllByRecursion FitsRecord (heads_from h at xs)
  heads_fit at [] f le = (last at (omega (arith, le)), tt)
  heads_fit at (x ∷ xs) f le =
      let w = sum_by-cons (λ (x : ZoneOwner H). zone_count x.global x.zones) x xs in
      let z = (holds h.level x.global x.zones).zones_are in (
        written at x.head (omega (arith, le)) f.0.head,
        heads_fit (at + length (bags_of h.level x)) xs f.1 (omega (arith, w, z, le)),
      )

pub preset_heads_fit : (xs : List (ZoneOwner Head)) → AllByRecursion (FitsOwner FitsHead) xs
    → owner_total zone_count xs ≤ 65535 → AllByRecursion FitsPresetHead (heads_from presets 0 xs)
preset_heads_fit xs f le =
    heads_fit presets FitsHead FitsPresetHead
    (λ at x lt v.
    record {
      name =
          length-filled x.name v.name.0;
      number =
          v.number;
      bank =
          v.bank;
      bag = lt;
      library = v.library;
      genre = v.genre;
      morphology = v.morphology;
    })
    (λ at lt. (ends_fit at lt).0) 0 xs f (omega (arith, le))

pub instrument_heads_fit : (xs : List (ZoneOwner (List ℕ))) → AllByRecursion (FitsOwner IsName) xs
    → owner_total zone_count xs ≤ 65535 → AllByRecursion FitsInstrumentHead (heads_from instruments 0 xs)
instrument_heads_fit xs f le =
    heads_fit instruments IsName FitsInstrumentHead (λ at x lt v. record { name = length-filled x v.0; bag = lt })
    (λ at lt. (ends_fit at lt).1) 0 xs f (omega (arith, le))

small_kind : (k : Kind) → kind_word k < 2 ^ 16
small_kind Mono = omega arith
small_kind (Right n) = omega arith
small_kind (Left n) = omega arith
small_kind (Linked n) = omega arith

small_link : (k : Kind) → FitsKind k → link_word k < 2 ^ 16
small_link Mono f = omega arith
small_link (Right x) f = f
small_link (Left x) f = f
small_link (Linked x) f = f

small_loop : (at n : ℕ) (l : Option (ℕ × ℕ)) → at + n ≤ 500000000 → IsLoop n l
    → (loop_start_at at l < 2 ^ 32) × (loop_end_at at l < 2 ^ 32)
small_loop at n None le v = (omega arith, omega arith)
small_loop at n (Some l) le v = let a = v.0 in let c = v.1 in (omega (arith, a, c), omega (arith, a, c))

pub sample_heads_fit : (n at : ℕ) (ss : List Sample) → AllByRecursion (IsSample n) ss → AllByRecursion FitsSample ss
    → at + point_total ss ≤ 500000000 → AllByRecursion FitsSampleHead (sample_heads_from at ss ++ sample_end ∷ [])
sample_heads_fit n at [] v f le = ((ends_fit 0 (omega arith)).2, tt)
sample_heads_fit n at (s ∷ ss) v f le =
    let w = sum_by-cons (λ (s : Sample). length s.points + 46) s ss in
    let looped = small_loop at (length s.points) s.looped (omega (arith, w, le)) v.0.looped in (
      record {
        name =
            length-filled s.name f.0.name.0;
        start =
            omega (arith, le);
        end =
            omega (arith, w, le);
        loop_start =
            looped.0;
        loop_end =
            looped.1;
        rate =
            f.0.rate;
        key =
            f.0.key;
        correction =
            f.0.correction;
        link = small_link s.kind f.0.kind;
        kind = small_kind s.kind;
      },
      sample_heads_fit n (at + length s.points + 46) ss v.1 f.1 (omega (arith, w, le)),
    )
