-- The presets and instruments read from headers and windows of bags.
use Rattle.std.proofs.Common.{◌≡◌, ◌≤◌, ◌<◌, ℕ, ltb, List, [], ◌∷◌, ◌++◌, length, map, None, arith}
use Rattle.std.specs.Prelude.{sum_by, flat_map}
use Rattle.std.specs.List.{AllByRecursion}
use Rattle.std.proofs.lemmas.Bool.{ltb-true}
use Rattle.sf_base.specs.Names.{IsName, before_zero}
use Rattle.generators.specs.declared.level.Level.{Level}
use Rattle.bank_parts.specs.declared.parts.Zone.{Zone}
use Rattle.bank_parts.specs.declared.parts.ZoneOwner.{ZoneOwner}
use Rattle.bank_parts.specs.Valid.{AreGenerators, IsZone, IsOwner, zone_count, gen_count, mod_count, owner_total}
use Rattle.bank_parts.specs.Fits.{FitsHead, FitsOwner}
use Rattle.hydra_records.specs.declared.head.PresetHead.{PresetHead}
use Rattle.hydra_records.specs.declared.head.InstrumentHead.{InstrumentHead}
use Rattle.hydra_records.specs.Fits.{FitsPresetHead, FitsInstrumentHead}
use Rattle.hydra_records.specs.Records.{AreBytes, ReadFits, records}
use Rattle.hydra_records.specs.Encoding.{preset_head_of, instrument_head_of}
use Rattle.hydra_records.proofs.RecordTypeLaws.{preset_head_lawful, instrument_head_lawful}
use Rattle.hydra_records.proofs.RecordLaws.{records-fit}
use Rattle.bank_format.specs.declared.fault.ReadFault.{ReadFault}
use Rattle.bank_format.specs.FaultChecks.{first_fault}
use Rattle.bank_format.specs.Windows.{zip_with}
use Rattle.bank_format.specs.Zones.{Bagged}
use Rattle.bank_format.specs.Tables.{Headers, presets}
use Rattle.bank_format.specs.Reading.{owner_read}
use Rattle.bank_format.specs.ReadChecks.{target_check, targets_of}
use Rattle.bank_format.proofs.CheckLaws.{split_none}
use Rattle.bank_format.proofs.ReadBytes.{take_bytes}
use Rattle.bank_format.proofs.ReadTexts.{name_valid}
use Rattle.bank_format.proofs.ReadWindows.{all_together, sum-right}
use Rattle.bank_format.proofs.ReadHeaders.{HasGenerators, zones_hold, global_holds, zones_fit, global_fits, counted}
use Rattle.bank_format.proofs.ReadHeaders.{gens_in, mods_in}
use Rattle.bank_format.proofs.ReadTables.{AllFit, AreWithin}

-- ---- headers read from bytes

pub record ReadPresetHead (h : PresetHead) : Type 0 where
  pub fits : FitsPresetHead h
  pub name : AreBytes h.name

pub record ReadInstrumentHead (h : InstrumentHead) : Type 0 where
  pub fits : FitsInstrumentHead h
  pub name : AreBytes h.name

preset_head_read : ReadFits 38 preset_head_of ReadPresetHead
unfolding preset_head_of
preset_head_read bytes b e = record { fits = preset_head_lawful.read_fits bytes b e; name = take_bytes 20 bytes b }

instrument_head_read : ReadFits 22 instrument_head_of ReadInstrumentHead
unfolding instrument_head_of
instrument_head_read bytes b e =
    record { fits = instrument_head_lawful.read_fits bytes b e; name = take_bytes 20 bytes b }

pub preset_heads_read : (bytes : List ℕ) → AreBytes bytes
    → AllByRecursion ReadPresetHead (records 38 preset_head_of bytes)
preset_heads_read = records-fit 38 preset_head_of ReadPresetHead preset_head_read

pub instrument_heads_read : (bytes : List ℕ) → AreBytes bytes
    → AllByRecursion ReadInstrumentHead (records 22 instrument_head_of bytes)
instrument_heads_read = records-fit 22 instrument_head_of ReadInstrumentHead instrument_head_read

-- ---- lemmas about lists

both_hold : {X : Type 0} (P Q R : X → Type 0) → ((x : X) → P x → Q x → R x) → (xs : List X) → AllByRecursion P xs
    → AllByRecursion Q xs → AllByRecursion R xs
both_hold P Q R h [] p q = tt
both_hold P Q R h (x ∷ xs) p q = (h x p.0 q.0, both_hold P Q R h xs p.1 q.1)

nothing_holds : {X : Type 0} (xs : List X) → AllByRecursion (λ x. Unit {0}) xs
nothing_holds [] = tt
nothing_holds (x ∷ xs) = (tt, nothing_holds xs)

-- ---- targets

abbrev HasTarget : ℕ → Zone → Type 0
HasTarget n z = z.target < n

zone_targets : (n : ℕ) (f : ReadFault) (zs : List Zone) → first_fault (map (target_check n f) zs) ≡ None
    → AllByRecursion (HasTarget n) zs
zone_targets n f [] e = tt
zone_targets n f (z ∷ zs) e =
    let both = split_none (ltb z.target n) (first_fault (map (target_check n f) zs)) f e in
    (ltb-true _ _ both.0, zone_targets n f zs both.1)

split_all : {X : Type 0} (P : X → Type 0) (xs ys : List X) → AllByRecursion P (xs ++ ys)
    → AllByRecursion P xs × AllByRecursion P ys
split_all P [] ys v = (tt, v)
split_all P (x ∷ xs) ys v = let rest = split_all P xs ys v.1 in ((v.0, rest.0), rest.1)

split_flat : {X Y : Type 0} (P : X → Type 0) (f : Y → List X) (ys : List Y) → AllByRecursion P (flat_map f ys)
    → AllByRecursion (λ y. AllByRecursion P (f y)) ys
split_flat P f [] v = tt
split_flat P f (y ∷ ys) v = let both = split_all P (f y) (flat_map f ys) v in (both.0, split_flat P f ys both.1)

zones_valid : (at : Level) (n : ℕ) (zs : List Zone) → AllByRecursion (HasGenerators at) zs
    → AllByRecursion (HasTarget n) zs → AllByRecursion (IsZone at n) zs
zones_valid at n zs g t =
    both_hold (HasGenerators at) (HasTarget n) (IsZone at n) (λ z p q. record { target = q; gens = p }) zs g t

-- ---- presets, or instruments

module _ {H R : Type 0} (h : Headers H R) (rs : List R) (ws : List (List Bagged)) where
  abbrev owners : List (ZoneOwner H)
  owners = zip_with (owner_read h) rs ws

  -- valid except for targets
  record IsNear (name_of : H → List ℕ) (x : ZoneOwner H) : Type 0 where
    name : IsName (name_of x.head)
    global : AreGenerators h.level x.global.gens
    zones : AllByRecursion (HasGenerators h.level) x.zones

  module _ (IsRead : R → Type 0) (name_of : H → List ℕ) (named : (r : R) → IsRead r → IsName (name_of (h.read r))) where
    near : AllByRecursion IsRead rs → AllByRecursion (IsNear name_of) owners
    near v =
        all_together (owner_read h) IsRead (λ w. Unit {0}) (IsNear name_of)
        (λ r w is u. record { name = named r is; global = global_holds h.level w; zones = zones_hold h.level w })
        rs ws v (nothing_holds ws)

    pub owners_valid : (n : ℕ) (f : ReadFault) → AllByRecursion IsRead rs
        → first_fault (targets_of n f owners) ≡ None → AllByRecursion (IsOwner name_of h.level n) owners
    owners_valid n f v e =
        let targets =
        split_flat (HasTarget n) (λ (x : ZoneOwner H). x.zones) owners
        (zone_targets n f (flat_map (λ (x : ZoneOwner H). x.zones) owners) e) in
        both_hold (IsNear name_of) (λ x. AllByRecursion (HasTarget n) x.zones) (IsOwner name_of h.level n)
        (λ x q t.
        record {
          name =
              q.name;
          zones = record { global = q.global; zones = zones_valid h.level n x.zones q.zones t };
        })
        owners (near v) targets

  pub owners_fit : (IsRead : R → Type 0) (IsFit : H → Type 0) → ((r : R) → IsRead r → IsFit (h.read r))
      → AllByRecursion IsRead rs → AllByRecursion AllFit ws → AllByRecursion (FitsOwner IsFit) owners
  owners_fit IsRead IsFit fits v k =
      all_together (owner_read h) IsRead AllFit (FitsOwner IsFit)
      (λ r w is f. record { head = fits r is; global = global_fits h.level w f; zones = zones_fit h.level w f })
      rs ws v k

  pub record AreOwnersWithin : Type 0 where
    pub zones : owner_total zone_count owners ≤ 65535
    pub gens : owner_total gen_count owners ≤ 65535
    pub mods : owner_total mod_count owners ≤ 65535

  pub owners_within : AreWithin ws → AreOwnersWithin
  owners_within v =
      let vz = v.zones in
      let vg = v.gens in
      let vm = v.mods in
      record {
        zones =
            omega (
              arith,
              vz,
              sum-right (owner_read h) (λ (x : ZoneOwner H). zone_count x.global x.zones) length
                  (λ r w. (counted h.level w).zones) rs ws,
            );
        gens =
            omega (
              arith,
              vg,
              sum-right (owner_read h) (λ (x : ZoneOwner H). gen_count x.global x.zones)
                  (λ bags. sum_by gens_in bags) (λ r w. (counted h.level w).gens) rs ws,
            );
        mods =
            omega (
              arith,
              vm,
              sum-right (owner_read h) (λ (x : ZoneOwner H). mod_count x.global x.zones)
                  (λ bags. sum_by mods_in bags) (λ r w. (counted h.level w).mods) rs ws,
            );
      }

-- ---- presets, then instruments

pub preset_named : (r : PresetHead) → ReadPresetHead r → IsName (before_zero r.name)
preset_named r v = name_valid r.name v.name v.fits.name

pub preset_fits : (r : PresetHead) → ReadPresetHead r → FitsHead (presets.read r)
preset_fits r v =
    record {
      name =
          preset_named r v;
      number =
          v.fits.number;
      bank =
          v.fits.bank;
      library = v.fits.library;
      genre = v.fits.genre;
      morphology = v.fits.morphology;
    }

pub instrument_named : (r : InstrumentHead) → ReadInstrumentHead r → IsName (before_zero r.name)
instrument_named r v = name_valid r.name v.name v.fits.name
