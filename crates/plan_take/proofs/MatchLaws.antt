-- Zones that are compared match, and presets that match have the same voices.
use Rattle.std.proofs.Common.{◌≡◌, ℕ, ◌<◌, Option, Some, None, List, length, slice_get, refl, sym, ap, subst, ◌∙◌}
use Rattle.std.specs.Option.{option_map, option_and_then}
use Rattle.bank_parts.specs.declared.parts.Zone.{Zone}
use Rattle.bank_parts.specs.declared.parts.GlobalZone.{GlobalZone}
use Rattle.bank_parts.specs.declared.parts.ZoneOwner.{ZoneOwner}
use Rattle.bank_parts.specs.declared.parts.Parts.{Parts}
use Rattle.bank_parts.specs.declared.owners.ZonePlace.TheVariants as place
use Rattle.bank_parts.specs.Owners.{zone_at, target_at}
use Rattle.bank_parts.specs.Settings.{settings_of_zone, settings_in, settings_at}
use Rattle.plan_presets.specs.declared.numbers.TakenPreset.{TakenPreset}
use Rattle.plan_take.specs.Taking.{preset_with, OfEach, IsCopied}
use Rattle.plan_take.specs.Matches.{AreBoth, HasNumber, AllMatch, SamplesMatch, ZonesMatch, OwnersMatch, Renumbered}
use Rattle.plan_take.specs.Matches.{PresetsMatch}
use Rattle.plan_take.proofs.VoiceLaws.{related, same_selected}

some_same : {X : Type 0} (x y : X) → Some x ≡ Some y → x ≡ y
some_same x y e = cc

-- ---- zones

zones_match : (T : ℕ → ℕ → Type 0) (o p : Option Zone) (t s : ℕ) → option_map (λ (z : Zone). z.target) o ≡ Some t
    → option_map (λ (z : Zone). z.target) p ≡ Some s → option_map settings_of_zone o ≡ option_map settings_of_zone p
    → T t s → AreBoth (ZonesMatch T) o p
zones_match T None p t s a b e h = absurd cc
zones_match T (Some z) None t s a b e h = absurd cc
zones_match T (Some z) (Some w) t s a b e h =
    let same = some_same (settings_of_zone z) (settings_of_zone w) e in
    record {
      gens = ap (λ (g : GlobalZone). g.gens) same;
      mods = ap (λ (g : GlobalZone). g.mods) same;
      target =
          subst (λ x. T x w.target) (sym (some_same z.target t a))
          (subst (λ x. T t x) (sym (some_same w.target s b)) h);
    }

settings_there : {H : Type 0} (k : ℕ) (o : Option (ZoneOwner H))
    → option_and_then (settings_in (place.Zone k)) o
    ≡ option_map settings_of_zone (option_and_then (λ x. slice_get x.zones k) o)
settings_there k None = refl
settings_there k (Some x) = refl

-- zone k of two owners
pub zone_matches : {H : Type 0} (T : ℕ → ℕ → Type 0) (xs ys : List (ZoneOwner H)) (i j k t s : ℕ)
    → target_at xs i k ≡ Some t → target_at ys j k ≡ Some s
    → settings_at xs i (place.Zone k) ≡ settings_at ys j (place.Zone k) → T t s
    → AreBoth (ZonesMatch T) (zone_at xs i k) (zone_at ys j k)
zone_matches T xs ys i j k t s a b e h =
    zones_match T (zone_at xs i k) (zone_at ys j k) t s a b
    (sym (settings_there k (slice_get xs i)) ∙ e ∙ settings_there k (slice_get ys j)) h

-- two owners, by their zones
pub owners_match : {H : Type 0} (T : ℕ → ℕ → Type 0) (o p : Option (ZoneOwner H)) (n m : ℕ) → n ≡ m
    → option_map (λ x. length x.zones) o ≡ Some n → option_map (λ x. length x.zones) p ≡ Some m
    → option_and_then (settings_in place.Global) o ≡ option_and_then (settings_in place.Global) p
    → ((k : ℕ) → k < n
    → AreBoth (ZonesMatch T) (option_and_then (λ x. slice_get x.zones k) o) (option_and_then (λ x. slice_get x.zones k) p))
    → AreBoth (OwnersMatch T) o p
owners_match T None p n m e a b g h = absurd cc
owners_match T (Some x) None n m e a b g h = absurd cc
owners_match T (Some x) (Some y) n m e a b g h =
    let first = some_same (length x.zones) n a in
    let second = some_same (length y.zones) m b in
    record {
      global = some_same x.global y.global g;
      count = first ∙ e ∙ sym second;
      zones = λ k lt. h k (subst (λ c. k < c) first lt);
    }

-- members by number
pub both_there : {X Y : Type 0} (R : X → Y → Type 0) (xs : List X) (ys : List Y) (i j : ℕ) (x : X) (y : Y)
    → slice_get xs i ≡ Some x → slice_get ys j ≡ Some y → R x y → AreBoth R (slice_get xs i) (slice_get ys j)
both_there R xs ys i j x y a b h =
    subst (λ o. AreBoth R o (slice_get ys j)) (sym a) (subst (λ o. AreBoth R (Some x) o) (sym b) h)

-- members of equal lists
pub match_in : {X Y : Type 0} (R : X → Y → Type 0) (numbers : List (Option ℕ)) (xs vs : List X) (ys ws : List Y)
    → xs ≡ vs → ys ≡ ws → AllMatch R numbers xs ys → AllMatch R numbers vs ws
match_in R numbers xs vs ys ws e g h =
    subst (λ zs. AllMatch R numbers zs ws) e (subst (λ zs. AllMatch R numbers xs zs) g h)

-- presets by their numbers
pub preset_found : (instruments : List (Option ℕ)) (from b : Parts) (p : TakenPreset) (i j : ℕ)
    → preset_with from.presets p.from ≡ slice_get from.presets i → preset_with b.presets p.to ≡ slice_get b.presets j
    → AreBoth (Renumbered instruments) (slice_get from.presets i) (slice_get b.presets j)
    → PresetsMatch instruments from b p
preset_found instruments from b p i j e g h =
    subst (λ o. AreBoth (Renumbered instruments) o (preset_with b.presets p.to)) (sym e)
    (subst (λ o. AreBoth (Renumbered instruments) (slice_get from.presets i) o) (sym g) h)

-- ---- voices

-- presets that match their originals are copies of them
pub copied : (from b : Parts) (presets : List TakenPreset) (samples instruments : List (Option ℕ))
    → AllMatch SamplesMatch samples from.samples b.samples
    → AllMatch (Renumbered samples) instruments from.instruments b.instruments
    → OfEach (PresetsMatch instruments from b) presets → OfEach (IsCopied from b) presets
copied from b presets samples instruments heard played match i p at n =
    sym
    (same_selected n p.from p.to from b (HasNumber samples) (HasNumber instruments)
    (λ j k h. related SamplesMatch (slice_get from.samples j) (slice_get b.samples k) (heard j k h))
    (λ j k h. related (Renumbered samples) (slice_get from.instruments j) (slice_get b.instruments k) (played j k h))
    (related (Renumbered instruments) (preset_with from.presets p.from) (preset_with b.presets p.to) (match i p at)))
