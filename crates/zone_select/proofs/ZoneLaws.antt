-- Zones, from the queries of a bank.
use Rattle.std.proofs.Common.{◌≡◌, ◌≤◌, ◌<◌, ◌&&◌, Fits, w32, ℕ, ◌+◌}
use Rattle.std.proofs.Common.{Bool, true, false, List, [], ◌∷◌, length, Option, Some, None, IsSomeAnd, slice_get}
use Rattle.std.proofs.Common.{unwrap_or, refl, sym, ap, subst, ◌∙◌, arith}
use Rattle.std.specs.FinMap.{entries, get-entries}
use Rattle.std.specs.Option.{option_map_or, option_map}
use Rattle.std.proofs.lemmas.Option.{get_or_from_slice_get, slice_get_within, none-some, same_Some}
use Rattle.std.proofs.lemmas.List.Sums.{get_or-le-sum_by}
use Rattle.script_notes.specs.Notes.{Numbers}
use Rattle.bank_parts.specs.declared.owners.ZonePlace.TheVariants as place
use Rattle.bank_parts.specs.declared.parts.Zone.{Zone}
use Rattle.bank_parts.specs.declared.parts.ZoneOwner.{ZoneOwner}
use Rattle.bank_parts.specs.declared.parts.Parts.{Parts}
use Rattle.bank_parts.specs.Valid.{IsWithin, zone_count, owner_total}
use Rattle.bank_parts.specs.Sound.{IsSound}
use Rattle.bank_parts.specs.Owners.{HasPlace, zone_count_at, entries_at}
use Rattle.bank_changes.specs.declared.members.Owner.{Owner}
use Rattle.bank_changes.specs.declared.members.Owner.TheVariants as owner
use Rattle.bank_changes.specs.Members.{owner_zone_count}
use Rattle.zone_select.specs.Ranges.{holds, within, range_in, global_entries}
use Rattle.zone_select.specs.Pairs.{holds_at, held}
use Rattle.zone_select.specs.Remaining.{zones_in, owner_holds, owner_held}
use Rattle.zone_select.proofs.NumberLaws.{numbers, numbers_end, numbers_hit, numbers_miss}

-- ---- an owner has no more zones than its whole level

few_in : {H : Type 0} (owners : List (ZoneOwner H)) (i : ℕ) (o : Option (ZoneOwner H)) → slice_get owners i ≡ o
    → option_map_or (λ (x : ZoneOwner H). length x.zones) o 0 ≤ owner_total zone_count owners
few_in owners i None e = omega arith
few_in {H} owners i (Some x) e =
    let h =
    get_or-le-sum_by (λ (y : ZoneOwner H). zone_count y.global y.zones) owners i x
    (slice_get_within owners i x e) in
    let same = ap (λ (y : ZoneOwner H). zone_count y.global y.zones) (get_or_from_slice_get owners i x x e) in
    omega (arith, h, same)

count_in : {H : Type 0} (owners : List (ZoneOwner H)) (i : ℕ) (o : Option (ZoneOwner H)) → slice_get owners i ≡ o
    → unwrap_or (zone_count_at owners i) 0 ≡ option_map_or (λ (x : ZoneOwner H). length x.zones) o 0
count_in owners i None e = rw e refl
count_in owners i (Some x) e = rw e refl

pub zones_few : (b : Parts) (o : Owner) → IsWithin b → zones_in b o ≤ 65535
zones_few b (owner.Preset p) w =
    let h = few_in b.presets p _ refl in
    let s = count_in b.presets p _ refl in let most = w.preset_zones in omega (arith, h, s, most)
zones_few b (owner.Inst i) w =
    let h = few_in b.instruments i _ refl in
    let s = count_in b.instruments i _ refl in let most = w.instrument_zones in omega (arith, h, s, most)

pub zone_count_few : (b : Parts) (o : Owner) (n : ℕ) → IsSound b → owner_zone_count b o ≡ Some n → n ≤ 65535
zone_count_few b o n s e =
    let h = zones_few b o s.valid.limits in let same : zones_in b o ≡ n = rw e refl in omega (arith, h, same)

pub fits_field : (n : ℕ) → n ≤ 65535 → Fits w32 n
fits_field n h = omega (arith, h)

-- ---- whether a zone contains the note

-- an existing zone, by its generators
module _ {H : Type 0} (owners : List (ZoneOwner H)) (n : Numbers) (i k : ℕ) (own : List (ℕ × ℕ))
    (e : entries_at owners i (place.Zone k) ≡ Some own) where
  abbrev HeldBy : Type 0
  HeldBy =
      option_map_or (λ (x : ZoneOwner H). holds_at n x.global x.zones k) (slice_get owners i) false
      ≡ (within (range_in own (global_entries owners i) 43) n.key
      && within (range_in own (global_entries owners i) 44) n.velocity)

  held_by : HeldBy
  unfolding holds
  held_by = at (slice_get owners i) refl
    where
      zone : (x : ZoneOwner H) (o : Option Zone) → slice_get owners i ≡ Some x → slice_get x.zones k ≡ o → HeldBy
      zone x None p q = absurd (none-some _ (sym (rw (p, q) refl) ∙ e))
      zone x (Some z) p q =
          let same : entries z.gens ≡ own = same_Some _ _ (sym (rw (p, q) refl) ∙ e) in
          rw (
            p,
            q,
            ← same,
            get-entries z.gens 43,
            get-entries z.gens 44,
            get-entries x.global.gens 43,
            get-entries x.global.gens 44,
          )
          refl

      at : (o : Option (ZoneOwner H)) → slice_get owners i ≡ o → HeldBy
      at None p = absurd (none-some _ (sym (rw p refl) ∙ e))
      at (Some x) p = zone x (slice_get x.zones k) p refl

  module _ (q : Bool) (key : ℕ) (h : key ≡ n.key) (is : q ≡ within (range_in own (global_entries owners i) 43) key)
    where
      first : q ≡ within (range_in own (global_entries owners i) 43) n.key
      first = is ∙ ap (within (range_in own (global_entries owners i) 43)) h

      pub holds_then : (r : Bool) (velocity : ℕ) → velocity ≡ n.velocity → q ≡ true
          → r ≡ within (range_in own (global_entries owners i) 44) velocity
          → r ≡ option_map_or (λ (x : ZoneOwner H). holds_at n x.global x.zones k) (slice_get owners i) false
      holds_then r velocity v t w =
          w ∙ ap (within (range_in own (global_entries owners i) 44)) v
          ∙ ap (λ (x : Bool). x && within (range_in own (global_entries owners i) 44) n.velocity) (sym t ∙ first)
          ∙ sym held_by

      pub holds_else : q ≡ false
          → q ≡ option_map_or (λ (x : ZoneOwner H). holds_at n x.global x.zones k) (slice_get owners i) false
      holds_else t =
          t ∙ ap (λ (x : Bool). x && within (range_in own (global_entries owners i) 44) n.velocity) (sym t ∙ first)
          ∙ sym held_by

-- an owner with a zone exists
pub has_global : {H : Type 0} (owners : List (ZoneOwner H)) (i k : ℕ) → HasPlace owners i (place.Zone k)
    → HasPlace owners i place.Global
has_global {H} owners i k h = at (slice_get owners i) refl
  where
    at : (o : Option (ZoneOwner H)) → slice_get owners i ≡ o → i < length owners
    at None e =
        absurd
        (subst
        (λ (o : Option (ZoneOwner H)). IsSomeAnd (option_map (λ (x : ZoneOwner H). length x.zones) o) (λ n. k < n)) e h)
    at (Some x) e = slice_get_within owners i x e

-- ---- the numbers of the zones that contain the note

held_in : {H : Type 0} (owners : List (ZoneOwner H)) (n : Numbers) (i k : ℕ)
    → option_map_or (λ (x : ZoneOwner H). held n x.global x.zones k) (slice_get owners i) []
    ≡ numbers
    (λ j. option_map_or (λ (x : ZoneOwner H). holds_at n x.global x.zones j) (slice_get owners i) false) k
    (unwrap_or (zone_count_at owners i) 0)
held_in {H} owners n i k =
    elim (slice_get owners i) as
    (λ (o : Option (ZoneOwner H)).
    option_map_or (λ (x : ZoneOwner H). held n x.global x.zones k) o []
    ≡ numbers (λ j. option_map_or (λ (x : ZoneOwner H). holds_at n x.global x.zones j) o false) k
    (unwrap_or (option_map (λ (x : ZoneOwner H). length x.zones) o) 0)) [
      | None ↦ sym (numbers_end (λ _. false) k 0 (omega arith))
      | Some x ↦ refl
    ]

held_is : (b : Parts) (n : Numbers) (o : Owner) (k : ℕ)
    → owner_held b n o k ≡ numbers (owner_holds b n o) k (zones_in b o)
held_is b n (owner.Preset p) k = held_in b.presets n p k
held_is b n (owner.Inst i) k = held_in b.instruments n i k

pub held_end : (b : Parts) (n : Numbers) (o : Owner) (k : ℕ) → zones_in b o ≤ k → owner_held b n o k ≡ []
held_end b n o k h = held_is b n o k ∙ numbers_end (owner_holds b n o) k (zones_in b o) h

pub held_hit : (b : Parts) (n : Numbers) (o : Owner) (k : ℕ) → k < zones_in b o → owner_holds b n o k ≡ true
    → owner_held b n o k ≡ k ∷ owner_held b n o (k + 1)
held_hit b n o k h t =
    held_is b n o k ∙ numbers_hit (owner_holds b n o) k (zones_in b o) h t
    ∙ ap (λ (ks : List ℕ). k ∷ ks) (sym (held_is b n o (k + 1)))

pub held_miss : (b : Parts) (n : Numbers) (o : Owner) (k : ℕ) → k < zones_in b o → owner_holds b n o k ≡ false
    → owner_held b n o k ≡ owner_held b n o (k + 1)
held_miss b n o k h t =
    held_is b n o k ∙ numbers_miss (owner_holds b n o) k (zones_in b o) h t ∙ sym (held_is b n o (k + 1))
