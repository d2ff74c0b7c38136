-- The zones that are borrowed from a list of presets or instruments are written as the member's zones.
use Rattle.std.proofs.Common.{◌≡◌, ◌<◌, ◌≤◌, ◌+◌, ◌++◌, ℕ, List, [], length, drop, slice_get, Option, Some, None}
use Rattle.std.proofs.Common.{codes, refl, ap, ◌∙◌, arith}
use Rattle.std.specs.Prelude.{IfSome, IsSomeAnd}
use Rattle.std.specs.Option.{option_map}
use Rattle.std.specs.List.{flat_map}
use Rattle.std.specs.FinMap as map
use Rattle.std.proofs.lemmas.List.{at_drop_more, drop_all}
use Rattle.std.proofs.lemmas.Option.{get_or_from_slice_get}
use Rattle.base_numbered_lists.proofs.Lists.{slice_get-found}
use Rattle.base_outputs.specs.declared.output.Output.{Output}
use Rattle.base_outputs.specs.Output.{Puts}
use Rattle.base_outputs.proofs.OutputLaws.{puts_then, Putting, putting_start, putting_step, putting_end}
use Rattle.modulators.specs.declared.modulator.Modulator.{Modulator}
use Rattle.bank_parts.specs.declared.parts.Zone.{Zone}
use Rattle.bank_parts.specs.declared.parts.ZoneOwner.{ZoneOwner}
use Rattle.bank_parts.specs.declared.owners.ZonePlace.TheVariants as place
use Rattle.bank_parts.specs.Owners.{HasPlace, zone_count_at, zone_at, target_at, entries_at, mods_at}
use Rattle.show_page.specs.declared.json.Field.TheVariants.{Number}
use Rattle.show_page.specs.Json.{opened}
use Rattle.show_page.specs.Zones.{settings_text, global_text, zone_text}

abbrev zones_text : {H : Type 0} → ZoneOwner H → List ℕ
zones_text x = flat_map zone_text x.zones

some_of : {H : Type 0} (found : Option (ZoneOwner H)) (P : ℕ → Type 0)
    → IsSomeAnd (option_map (λ x. length x.zones) found) P → (x : ZoneOwner H) × (found ≡ Some x)
some_of None P has = absurd has
some_of (Some x) P has = (x, refl)

module _ {H : Type 0} (xs : List (ZoneOwner H)) (i : ℕ) where
  pub puts_global : {W : Type 0} {c : W → Option (List ℕ)} {o p q : Output W} (es : List (ℕ × ℕ)) (ms : List Modulator)
      → i < length xs → entries_at xs i place.Global ≡ Some es → mods_at xs i place.Global ≡ Some ms
      → Puts c o p (codes ",[\"global\"") → Puts c p q (settings_text es ms)
      → IfSome (slice_get xs i) (λ x. Puts c o q (global_text x.global))
  puts_global {W} {c} {o} {p} {q} es ms lt entries modulators h k =
      let (x, is) = slice_get-found xs i lt in
      let u : map.entries x.global.gens ≡ es = (let w = rw is at entries in cc w) in
      let v : x.global.mods ≡ ms = (let w = rw is at modulators in cc w) in
      let own : Puts c p q (settings_text (map.entries x.global.gens) x.global.mods) = rw (u, v) k in
      rw is (puts_then _ _ h own)

  member_of : (k : ℕ) → HasPlace xs i (place.Zone k) → (x : ZoneOwner H) × (slice_get xs i ≡ Some x)
  member_of k has = some_of (slice_get xs i) (λ n. k < n) has

  pub puts_zone : {W : Type 0} {c : W → Option (List ℕ)} {o p q r : Output W} (k target : ℕ) (es : List (ℕ × ℕ))
      (ms : List Modulator)
      → HasPlace xs i (place.Zone k)
      → target_at xs i k ≡ Some target → entries_at xs i (place.Zone k) ≡ Some es
      → mods_at xs i (place.Zone k) ≡ Some ms
      → Puts c o p (codes ",") → Puts c p q (opened (Number target)) → Puts c q r (settings_text es ms)
      → IfSome (zone_at xs i k) (λ z. Puts c o r (zone_text z))
  puts_zone {W} {c} {o} {p} {q} {r} k target es ms has t entries modulators h j l =
      let (x, is) = member_of k has in
      let (z, there) = slice_get-found x.zones k (rw is at has) in
      let u : map.entries z.gens ≡ es = (let w = rw (is, there) at entries in cc w) in
      let v : z.mods ≡ ms = (let w = rw (is, there) at modulators in cc w) in
      let to : z.target ≡ target = (let w = rw (is, there) at t in cc w) in
      let first : Puts c p q (opened (Number z.target)) = rw to j in
      let own : Puts c q r (settings_text (map.entries z.gens) z.mods) = rw (u, v) l in
      rw (is, there) (puts_then _ _ h (puts_then _ _ first own))

  -- the remaining zones are still to be written
  abbrev pub PuttingZones : {W : Type 0} → (W → Option (List ℕ)) → Output W → Output W → ℕ → Type 0
  PuttingZones c o p k =
      IfSome (slice_get xs i) (λ x. Putting c o p (zones_text x) (flat_map zone_text (drop k x.zones)))

  pub putting_zones_start : {W : Type 0} (c : W → Option (List ℕ)) (o : Output W) → i < length xs → PuttingZones c o o 0
  putting_zones_start c o lt = let (x, is) = slice_get-found xs i lt in rw is (putting_start (zones_text x))

  pub putting_zones_step : {W : Type 0} (c : W → Option (List ℕ)) (o p q : Output W) (k count : ℕ) → i < length xs
      → zone_count_at xs i ≡ Some count → k < count → PuttingZones c o p k
      → IfSome (zone_at xs i k) (λ z. Puts c p q (zone_text z)) → PuttingZones c o q (k + 1)
  putting_zones_step c o p q k count lt n less putting put =
      let (x, is) = slice_get-found xs i lt in
      let size : length x.zones ≡ count = (let p = rw is at n in cc p) in
      let (z, there) = slice_get-found x.zones k (omega (arith, size, less)) in
      let next =
      at_drop_more (flat_map zone_text) x.zones k z (omega (arith, size, less))
      ∙ ap (λ (y : Zone). zone_text y ++ flat_map zone_text (drop (k + 1) x.zones))
      (get_or_from_slice_get x.zones k z z there) in
      rw is
      (putting_step (zone_text z) (flat_map zone_text (drop (k + 1) x.zones)) (rw is at putting) next
      (rw (is, there) at put))

  pub putting_zones_end : {W : Type 0} (c : W → Option (List ℕ)) (o p : Output W) (k count : ℕ) → i < length xs
      → zone_count_at xs i ≡ Some count → count ≤ k → PuttingZones c o p k
      → IfSome (slice_get xs i) (λ x. Puts c o p (zones_text x))
  putting_zones_end c o p k count lt n over putting =
      let (x, is) = slice_get-found xs i lt in
      let size : length x.zones ≡ count = (let p = rw is at n in cc p) in
      let none : flat_map zone_text (drop k x.zones) ≡ [] =
      ap (flat_map zone_text) (drop_all k x.zones (omega (arith, size, over))) in
      rw is (putting_end (rw (is, none) at putting))

  pub has_zone : (k count : ℕ) → i < length xs → zone_count_at xs i ≡ Some count → k < count
      → HasPlace xs i (place.Zone k)
  has_zone k count lt n less = rw n less
