-- The zones that are borrowed from a list of presets or instruments are written as the member's zones.
use Rattle.std.proofs.Common.{◌≡◌, ◌<◌, ◌≤◌, ◌+◌, ◌++◌, ℕ, true, false, List, [], ◌∷◌, length, drop, slice_get}
use Rattle.std.proofs.Common.{Option, Some, None, codes, refl, ap, ◌∙◌, arith}
use Rattle.std.specs.Prelude.{◌==◌, IfSome, IsSomeAnd}
use Rattle.std.specs.Option.{option_map}
use Rattle.std.specs.List.{flat_map}
use Rattle.std.specs.FinMap as map
use Rattle.std.specs.FinMap.{len}
use Rattle.std.proofs.lemmas.Bool.{ne_eqb}
use Rattle.std.proofs.lemmas.List.{at_drop_more, drop_all}
use Rattle.std.proofs.lemmas.Option.{get_or_from_slice_get}
use Rattle.base_numbered_lists.proofs.Lists.{slice_get-found}
use Rattle.base_outputs.specs.declared.output.Output.{Output}
use Rattle.base_outputs.specs.Output.{Puts}
use Rattle.base_outputs.proofs.OutputLaws.{puts_nothing, Putting, putting_start, putting_step, putting_end}
use Rattle.modulators.specs.declared.modulator.Modulator.{Modulator}
use Rattle.bank_parts.specs.declared.parts.Zone.{Zone}
use Rattle.bank_parts.specs.declared.parts.ZoneOwner.{ZoneOwner}
use Rattle.bank_parts.specs.declared.owners.ZonePlace.TheVariants as place
use Rattle.bank_parts.specs.Owners.{HasPlace, zone_count_at, zone_at, target_at, gens_at, entries_at, mods_at}
use Rattle.script_grammar.specs.Operands.{Fixed, Number}
use Rattle.script_grammar.specs.Items.{items_operands}
use Rattle.script_grammar.specs.Zones.{listed_items, global_of, global_operands, written_of, written_operands}
use Rattle.script_grammar.proofs.PutLaws.{spaced_out}
use Rattle.script_grammar.proofs.ZonePutLaws.{zone_text, puts_zone, puts_global, puts_zones}

abbrev global_text : {H : Type 0} → ZoneOwner H → List ℕ
global_text x = spaced_out (global_operands (global_of x.global))

abbrev zones_text : {H : Type 0} → ZoneOwner H → List ℕ
zones_text x = flat_map zone_text x.zones

some_of : {H : Type 0} (found : Option (ZoneOwner H)) (P : ℕ → Type 0)
    → IsSomeAnd (option_map (λ x. length x.zones) found) P → (x : ZoneOwner H) × (found ≡ Some x)
some_of None P has = absurd has
some_of (Some x) P has = (x, refl)

module _ {H : Type 0} (xs : List (ZoneOwner H)) (i : ℕ) where
  -- ---- the global zone

  pub puts_no_global : {W : Type 0} (c : W → Option (List ℕ)) (o : Output W) (gens mods : ℕ) → i < length xs
      → option_map len (gens_at xs i place.Global) ≡ Some gens
      → option_map length (mods_at xs i place.Global) ≡ Some mods → gens ≡ 0 → mods ≡ 0
      → IfSome (slice_get xs i) (λ x. Puts c o o (global_text x))
  puts_no_global c o gens mods lt g m gz mz =
      let (x, is) = slice_get-found xs i lt in
      let a : len x.global.gens ≡ 0 = (let p = rw is at g in cc (p, gz)) in
      let b : length x.global.mods ≡ 0 = (let p = rw is at m in cc (p, mz)) in
      let e : (len x.global.gens + length x.global.mods == 0) ≡ true = rw (a, b) refl in
      rw is (rw e (puts_nothing o))

  pub puts_a_global : {W : Type 0} {c : W → Option (List ℕ)} {o p q : Output W} (gens mods : ℕ) (es : List (ℕ × ℕ))
      (ms : List Modulator)
      → i < length xs
      → option_map len (gens_at xs i place.Global) ≡ Some gens
      → option_map length (mods_at xs i place.Global) ≡ Some mods → 0 < gens + mods
      → entries_at xs i place.Global ≡ Some es → mods_at xs i place.Global ≡ Some ms
      → Puts c o p (spaced_out (Fixed (codes "{") ∷ Fixed (codes "global") ∷ []))
      → Puts c p q (spaced_out (items_operands (listed_items es ms)))
      → IfSome (slice_get xs i) (λ x. Puts c o q (global_text x))
  puts_a_global {W} {c} {o} {p} {q} gens mods es ms lt g m some entries modulators h k =
      let (x, is) = slice_get-found xs i lt in
      let a : len x.global.gens ≡ gens = (let p = rw is at g in cc p) in
      let b : length x.global.mods ≡ mods = (let p = rw is at m in cc p) in
      let e : (len x.global.gens + length x.global.mods == 0) ≡ false =
      ne_eqb _ _ (λ z. omega (arith, a, b, some, z)) in
      let own : Puts c p q (spaced_out (items_operands (listed_items (map.entries x.global.gens) x.global.mods))) =
      (let u : map.entries x.global.gens ≡ es =
      (let w = rw is at entries in cc w) in let v : x.global.mods ≡ ms =
      (let w = rw is at modulators in cc w) in rw (u, v) k)
      in
      rw is (puts_global x.global e h own)

  -- ---- the zones

  member_of : (k : ℕ) → HasPlace xs i (place.Zone k) → (x : ZoneOwner H) × (slice_get xs i ≡ Some x)
  member_of k has = some_of (slice_get xs i) (λ n. k < n) has

  pub puts_zone_of : {W : Type 0} {c : W → Option (List ℕ)} {o p q : Output W} (k target : ℕ) (es : List (ℕ × ℕ))
      (ms : List Modulator)
      → HasPlace xs i (place.Zone k)
      → target_at xs i k ≡ Some target → entries_at xs i (place.Zone k) ≡ Some es
      → mods_at xs i (place.Zone k) ≡ Some ms
      → Puts c o p (spaced_out (Fixed (codes "{") ∷ Number 65535 target ∷ []))
      → Puts c p q (spaced_out (items_operands (listed_items es ms)))
      → IfSome (zone_at xs i k) (λ z. Puts c o q (zone_text z))
  puts_zone_of {W} {c} {o} {p} {q} k target es ms has t entries modulators h l =
      let (x, is) = member_of k has in
      let (z, there) = slice_get-found x.zones k (rw is at has) in
      let u : map.entries z.gens ≡ es = (let w = rw (is, there) at entries in cc w) in
      let v : z.mods ≡ ms = (let w = rw (is, there) at modulators in cc w) in
      let to : z.target ≡ target = (let w = rw (is, there) at t in cc w) in
      let first : Puts c o p (spaced_out (Fixed (codes "{") ∷ Number 65535 z.target ∷ [])) = rw to h in
      let own : Puts c p q (spaced_out (items_operands (listed_items (map.entries z.gens) z.mods))) = rw (u, v) l in
      rw (is, there) (puts_zone z first own)

  -- the remaining zones are still to be written
  abbrev pub PuttingZones : {W : Type 0} → (W → Option (List ℕ)) → Output W → Output W → ℕ → Type 0
  PuttingZones c o p k =
      IfSome (slice_get xs i) (λ x. Putting c o p (zones_text x) (flat_map zone_text (drop k x.zones)))

  pub putting_zones_start : {W : Type 0} (c : W → Option (List ℕ)) (o : Output W) → i < length xs → PuttingZones c o o 0
  putting_zones_start c o lt = let (x, is) = slice_get-found xs i lt in rw is (putting_start (zones_text x))

  pub putting_zones_step : {W : Type 0} (c : W → Option (List ℕ)) (o p q : Output W) (k count : ℕ) → i < length xs
      → zone_count_at xs i ≡ Some count → k < count → PuttingZones c o p k
      → IfSome (zone_at xs i k) (λ z. Puts c p q (zone_text z)) → PuttingZones c o q (k + 1)
  putting_zones_step c o p q k count lt n less putting put =
      let (x, is) = slice_get-found xs i lt in
      let size : length x.zones ≡ count = (let p = rw is at n in cc p) in
      let (z, there) = slice_get-found x.zones k (omega (arith, size, less)) in
      let next =
      at_drop_more (flat_map zone_text) x.zones k z (omega (arith, size, less))
      ∙ ap (λ (y : Zone). zone_text y ++ flat_map zone_text (drop (k + 1) x.zones))
      (get_or_from_slice_get x.zones k z z there) in
      rw is
      (putting_step (zone_text z) (flat_map zone_text (drop (k + 1) x.zones)) (rw is at putting) next
      (rw (is, there) at put))

  pub putting_zones_end : {W : Type 0} (c : W → Option (List ℕ)) (o p : Output W) (k count : ℕ) → i < length xs
      → zone_count_at xs i ≡ Some count → count ≤ k → PuttingZones c o p k
      → IfSome (slice_get xs i) (λ x. Puts c o p (zones_text x))
  putting_zones_end c o p k count lt n over putting =
      let (x, is) = slice_get-found xs i lt in
      let size : length x.zones ≡ count = (let p = rw is at n in cc p) in
      let none : flat_map zone_text (drop k x.zones) ≡ [] =
      ap (flat_map zone_text) (drop_all k x.zones (omega (arith, size, over))) in
      rw is (putting_end (rw (is, none) at putting))

  pub has_zone : (k count : ℕ) → i < length xs → zone_count_at xs i ≡ Some count → k < count
      → HasPlace xs i (place.Zone k)
  has_zone k count lt n less = rw n less

  -- ---- all zones

  pub puts_zones_of : {W : Type 0} (c : W → Option (List ℕ)) (o p q : Output W) → i < length xs
      → IfSome (slice_get xs i) (λ x. Puts c o p (global_text x))
      → IfSome (slice_get xs i) (λ x. Puts c p q (zones_text x))
      → IfSome (slice_get xs i) (λ x. Puts c o q (spaced_out (written_operands (written_of x.global x.zones))))
  puts_zones_of c o p q lt h k =
      let (x, is) = slice_get-found xs i lt in
      rw is (puts_zones x.global x.zones (rw is at h) (rw is at k))
