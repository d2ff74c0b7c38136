-- The banks between the empty one and a sound bank are sound.
use Rattle.std.proofs.Common.{◌≡◌, ◌≤◌, ◌+◌, ◌++◌, ℕ, List, length, map, refl, sym, subst, arith}
use Rattle.std.specs.List.{AllByRecursion}
use Rattle.std.proofs.lemmas.List.{length-map, length-append}
use Rattle.std.proofs.lemmas.List.Sums.{sum_by-append}
use Rattle.sf_base.specs.Names.{IsName}
use Rattle.sf_base.specs.declared.limits.TheConstants.{SAMPLES, POINTS, ZERO_POINTS}
use Rattle.bank_parts.specs.declared.texts.Texts.{Texts}
use Rattle.bank_parts.specs.declared.parts.Head.{Head}
use Rattle.bank_parts.specs.declared.parts.ZoneOwner.{ZoneOwner}
use Rattle.bank_parts.specs.declared.parts.Sample.{Sample}
use Rattle.bank_parts.specs.declared.parts.Parts.{Parts}
use Rattle.bank_parts.specs.Valid.{IsWithin, IsPreset, IsInstrument, IsSample, AreTexts, zone_count, gen_count}
use Rattle.bank_parts.specs.Valid.{mod_count, point_total}
use Rattle.bank_parts.specs.Fits.{FitTexts, FitsOwner, FitsHead, FitsSample}
use Rattle.bank_parts.specs.Sound.{IsSound}
use Rattle.bank_changes.proofs.Everywhere.{all_sent, sum_kept}
use Rattle.script_of_bank.proofs.PrefixLaws.{all_append, length_front, sum_front, all_front, all_rest}
use Rattle.script_of_bank.proofs.Stages.{bank_of, mono}

-- ---- samples

pub record AreGood (ss : List Sample) : Type 0 where
  pub few : length ss ≤ SAMPLES
  pub points : point_total ss ≤ POINTS
  pub are : AllByRecursion (IsSample (length ss)) ss
  pub fit : AllByRecursion FitsSample ss

abbrev size_of : Sample → ℕ
size_of s = length s.points + ZERO_POINTS

mono_points : (ss : List Sample) → point_total (map mono ss) ≡ point_total ss
mono_points = sum_kept size_of mono (λ s. refl)

mono_are : (n m : ℕ) (ss : List Sample) → AllByRecursion (IsSample n) ss → AllByRecursion (IsSample m) (map mono ss)
mono_are n m =
    all_sent (IsSample n) (IsSample m) mono (λ s is. record { name = is.name; looped = is.looped; kind = tt })

pub mono_fits : (s : Sample) → FitsSample s → FitsSample (mono s)
mono_fits s f =
    record {
      name =
          f.name;
      points =
          f.points;
      looped = f.looped;
      rate = f.rate;
      key = f.key;
      correction = f.correction;
      kind = tt;
    }

mono_fit : (ss : List Sample) → AllByRecursion FitsSample ss → AllByRecursion FitsSample (map mono ss)
mono_fit = all_sent FitsSample FitsSample mono mono_fits

pub all_good : (b : Parts) → IsSound b → AreGood b.samples
all_good b s =
    record
    { few = s.valid.limits.samples; points = s.valid.limits.points; are = s.valid.samples; fit = s.fits.samples }

module _ (done rest whole : List Sample) (e : done ++ rest ≡ whole) (g : AreGood whole) where
  pub unlinked_good : AreGood (map mono done)
  unlinked_good =
      let n = length_front done rest whole e in
      let p = sum_front done rest whole e size_of in
      let same = length-map done mono in
      let points = mono_points done in
      let few = g.few in
      let most = g.points in
      record {
        few = omega (arith, n, same, few);
        points = omega (arith, p, points, most);
        are =
            mono_are (length whole) (length (map mono done)) done
            (all_front done rest whole e (IsSample (length whole)) g.are);
        fit = mono_fit done (all_front done rest whole e FitsSample g.fit);
      }

  pub half_length : length (done ++ map mono rest) ≡ length whole
  half_length =
      let n = length_front done rest whole e in
      let m = length-append done (map mono rest) in
      let same = length-map rest mono in
      omega (arith, n, m, same)

  pub half_good : AreGood (done ++ map mono rest)
  half_good =
      let p = sum_front done rest whole e size_of in
      let q = sum_by-append size_of done (map mono rest) in
      let points = mono_points rest in
      let size = half_length in
      let few = g.few in
      let most = g.points in
      record {
        few = omega (arith, size, few);
        points = omega (arith, p, q, points, most);
        are = subst (λ (n : ℕ). AllByRecursion (IsSample n) (done ++ map mono rest)) (sym size)
            (all_append (IsSample (length whole)) done (map mono rest)
            (all_front done rest whole e (IsSample (length whole)) g.are)
            (mono_are (length whole) (length whole) rest (all_rest done rest whole e (IsSample (length whole)) g.are)));
        fit =
            all_append FitsSample done (map mono rest) (all_front done rest whole e FitsSample g.fit)
            (mono_fit rest (all_rest done rest whole e FitsSample g.fit));
      }

-- ---- banks

abbrev zones_in : {H : Type 0} → ZoneOwner H → ℕ
zones_in x = zone_count x.global x.zones

abbrev gens_in : {H : Type 0} → ZoneOwner H → ℕ
gens_in x = gen_count x.global x.zones

abbrev mods_in : {H : Type 0} → ZoneOwner H → ℕ
mods_in x = mod_count x.global x.zones

-- the texts of one bank, and the first members of the lists of another
module _ (b : Parts) (s : IsSound b) (t : Texts) (good : AreTexts t) (fit : FitTexts t)
    (ps rest_ps : List (ZoneOwner Head)) (ep : ps ++ rest_ps ≡ b.presets)
    (is rest_is : List (ZoneOwner (List ℕ))) (ei : is ++ rest_is ≡ b.instruments)
    (ss : List Sample) (g : AreGood ss)
    (ps_valid : AllByRecursion (IsPreset (length is)) ps) (is_valid : AllByRecursion (IsInstrument (length ss)) is)
  where
    stage_within : IsWithin (bank_of b.minor t ps is ss)
    stage_within =
        let l = s.valid.limits in
        let np = length_front ps rest_ps b.presets ep in
        let ni = length_front is rest_is b.instruments ei in
        let zp = sum_front ps rest_ps b.presets ep zones_in in
        let gp = sum_front ps rest_ps b.presets ep gens_in in
        let mp = sum_front ps rest_ps b.presets ep mods_in in
        let zi = sum_front is rest_is b.instruments ei zones_in in
        let gi = sum_front is rest_is b.instruments ei gens_in in
        let mi = sum_front is rest_is b.instruments ei mods_in in
        let l1 = l.presets in
        let l2 = l.instruments in
        let l3 = l.preset_zones in
        let l4 = l.preset_gens in
        let l5 = l.preset_mods in
        let l6 = l.instrument_zones in
        let l7 = l.instrument_gens in
        let l8 = l.instrument_mods in
        record {
          presets = omega (arith, np, l1);
          instruments = omega (arith, ni, l2);
          samples = g.few;
          preset_zones = omega (arith, zp, l3);
          preset_gens = omega (arith, gp, l4);
          preset_mods = omega (arith, mp, l5);
          instrument_zones = omega (arith, zi, l6);
          instrument_gens = omega (arith, gi, l7);
          instrument_mods = omega (arith, mi, l8);
          points = g.points;
        }

    pub stage_sound : IsSound (bank_of b.minor t ps is ss)
    stage_sound = record {
      valid = record { texts = good; presets = ps_valid; instruments = is_valid; samples = g.are; limits = stage_within };
      fits = record {
        minor = s.fits.minor;
        texts = fit;
        presets = all_front ps rest_ps b.presets ep (FitsOwner FitsHead) s.fits.presets;
        instruments = all_front is rest_is b.instruments ei (FitsOwner IsName) s.fits.instruments;
        samples = g.fit;
      };
    }
