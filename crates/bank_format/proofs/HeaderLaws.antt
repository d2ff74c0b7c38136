-- Reading the bags written for a global zone and zones returns these, with all counts zero.
use Rattle.std.proofs.Common.{◌≡◌, ◌+◌, ℕ, true, false, not, eqb, List, [], ◌∷◌, length, map, filter, refl, sym, ap}
use Rattle.std.proofs.Common.{subst, ◌∙◌, arith, inl, inr}
use Rattle.std.specs.Prelude.{count_by, sum_by, filter_map}
use Rattle.std.specs.List.{AllByRecursion}
use Rattle.std.specs.FinMap.{entries, len, len-entries}
use Rattle.std.proofs.lemmas.Bool.{cases_eq, eq-eqb, ne_eqb}
use Rattle.generators.specs.Gens.{Gens}
use Rattle.generators.specs.declared.level.Level.{Level}
use Rattle.modulators.specs.declared.modulator.Modulator.{Modulator}
use Rattle.bank_parts.specs.Valid.{AreGenerators, IsZone, AreZones}
use Rattle.bank_parts.specs.declared.parts.GlobalZone.{GlobalZone}
use Rattle.bank_parts.specs.declared.parts.Zone.{Zone}
use Rattle.bank_format.specs.Zones.{Bagged, gens_written, zone_written, bags_written, kept, needs_repair, gens_of}
use Rattle.bank_format.specs.Zones.{zone_read, zones_read, no_global, global_read, has_target, dropped, counted_bags}
use Rattle.bank_format.specs.Zones.{ignored, gens_dropped, repaired_range_count}
use Rattle.bank_format.proofs.CountLaws.{sum-none, count-none}
use Rattle.bank_format.proofs.ZoneLaws.{Entries, generator_records, gens_of-again, gens_read-global, zone_read-again}
use Rattle.bank_format.proofs.ZoneLaws.{has_target-zone, has_target-global, dropped-zone, dropped-global}
use Rattle.bank_format.proofs.ZoneLaws.{repaired-zone, repaired-global, target_of-none}

abbrev made_global : Gens → List Modulator → GlobalZone
made_global gs ms = record { gens = gs; mods = ms }

abbrev global_bag : Gens → List Modulator → Bagged
global_bag gs ms = record { gens = gens_written gs; mods = ms }

no_elements : {A : Type 0} (xs : List A) → length xs ≡ 0 → xs ≡ []
no_elements [] e = refl
no_elements (x ∷ xs) e = absurd (omega arith)

module _ (at : Level) (n : ℕ) where
  abbrev Zones : List Zone → Type 0
  Zones zs = AllByRecursion (IsZone at n) zs

  abbrev written : List Zone → List Bagged
  written zs = map (zone_written at) zs

  -- ---- zones alone

  zones-again : (zs : List Zone) → Zones zs → filter_map (zone_read at) (written zs) ≡ zs
  zones-again [] v = refl
  zones-again (x ∷ zs) v = rw (zone_read-again at n x v.0) (ap (λ (ys : List Zone). x ∷ ys) (zones-again zs v.1))

  all_targets : (zs : List Zone) → Zones zs → filter (has_target at) (written zs) ≡ written zs
  all_targets [] v = refl
  all_targets (x ∷ zs) v =
      rw (has_target-zone at n x v.0) (ap (λ (ys : List Bagged). zone_written at x ∷ ys) (all_targets zs v.1))

  none_ignored : (zs : List Zone) → Zones zs → count_by (λ r. not (has_target at r)) (written zs) ≡ 0
  none_ignored [] v = refl
  none_ignored (x ∷ zs) v =
      count-none (λ r. not (has_target at r)) (zone_written at x) (written zs) (ap not (has_target-zone at n x v.0))
      (none_ignored zs v.1)

  none_dropped : (zs : List Zone) → Zones zs → sum_by (λ (r : Bagged). dropped at r.gens) (written zs) ≡ 0
  none_dropped [] v = refl
  none_dropped (x ∷ zs) v =
      sum-none (λ (r : Bagged). dropped at r.gens) (zone_written at x) (written zs)
      (dropped-zone at x.gens x.target v.0.gens) (none_dropped zs v.1)

  none_repaired : (zs : List Zone) → Zones zs
      → sum_by (λ (r : Bagged). count_by needs_repair (kept at r.gens)) (written zs) ≡ 0
  none_repaired [] v = refl
  none_repaired (x ∷ zs) v =
      sum-none (λ (r : Bagged). count_by needs_repair (kept at r.gens)) (zone_written at x) (written zs)
      (repaired-zone at x.gens x.target v.0.gens) (none_repaired zs v.1)

  -- ---- with the global zone

  -- the result of reading the bags of a header
  pub record Again (bags : List Bagged) (g : GlobalZone) (zs : List Zone) : Type 0 where
    pub global : global_read at bags ≡ g
    pub zones : zones_read at bags ≡ zs
    pub ignored : ignored at bags ≡ 0
    pub dropped : gens_dropped at bags ≡ 0
    pub repaired : repaired_range_count at bags ≡ 0

  -- a header without a bag for the global zone
  without : (zs : List Zone) → Zones zs → Again (written zs) no_global zs
  unfolding global_read zones_read ignored gens_dropped repaired_range_count counted_bags
  without [] v = record { global = refl; zones = refl; ignored = refl; dropped = refl; repaired = refl }
  without (x ∷ zs) v =
      let first = all_targets zs v.1 in
      record {
        global = rw (has_target-zone at n x v.0) refl;
        zones = zones-again (x ∷ zs) v;
        ignored = none_ignored zs v.1;
        dropped = rw first (none_dropped (x ∷ zs) v);
        repaired = rw first (none_repaired (x ∷ zs) v);
      }

  with_bag : (gs : Gens) (ms : List Modulator) (zs : List Zone) → AreGenerators at gs → Zones zs
      → Again (global_bag gs ms ∷ written zs) (made_global gs ms) zs
  unfolding global_read zones_read ignored gens_dropped repaired_range_count counted_bags
  with_bag gs ms zs g v =
      let first = all_targets zs v in
      record {
        global = rw (has_target-global at gs ms g) (ap (λ (x : Gens). made_global x ms) (gens_read-global at gs g));
        zones = rw (target_of-none at (entries gs) g) (zones-again zs v);
        ignored = none_ignored zs v;
        dropped =
            rw first
            (sum-none (λ (r : Bagged). dropped at r.gens) (global_bag gs ms) (written zs)
            (dropped-global at gs g) (none_dropped zs v));
        repaired =
            rw first
            (sum-none (λ (r : Bagged). count_by needs_repair (kept at r.gens)) (global_bag gs ms) (written zs)
            (repaired-global at gs g) (none_repaired zs v));
      }

  -- a global zone without generators and modulators equals the empty one
  empty_global : (g : GlobalZone) → len g.gens + length g.mods ≡ 0 → no_global ≡ g
  empty_global g e =
      let l = len-entries g.gens in
      let gens : gens_of [] ≡ g.gens =
      ap (λ (es : Entries). gens_of (generator_records es)) (sym (no_elements (entries g.gens) (omega (arith, e, l))))
      ∙ gens_of-again g.gens in
      let mods : [] ≡ g.mods = sym (no_elements g.mods (omega (arith, e))) in
      λ i. record { gens = gens i; mods = mods i }

  -- Reading the written bags of a header returns its global zone and zones.
  pub header-again : (g : GlobalZone) (zs : List Zone) → AreZones at n g zs → Again (bags_written at g zs) g zs
  unfolding bags_written
  header-again g zs v =
      elim (cases_eq (len g.gens + length g.mods) 0) [
        | inl none ↦ (let test : eqb (len g.gens + length g.mods) 0 ≡ true = eq-eqb _ _ none in
            rw test (subst (λ (x : GlobalZone). Again (written zs) x zs) (empty_global g none) (without zs v.zones)))
        | inr some ↦
            (let test : eqb (len g.gens + length g.mods) 0 ≡ false =
            ne_eqb _ _ some in rw test (with_bag g.gens g.mods zs v.global v.zones))
      ]
