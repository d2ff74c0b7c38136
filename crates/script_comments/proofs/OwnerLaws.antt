-- The zones that are borrowed from a list of presets or instruments have the items of the member's zones.
use Rattle.std.proofs.Common.{◌≡◌, ◌<◌, ◌≤◌, ◌+◌, ◌++◌, ℕ, suc, Bool, true, false, List, [], ◌∷◌, length, drop, get_or}
use Rattle.std.proofs.Common.{slice_get, Option, Some, refl, sym, ap, ◌∙◌, arith, drop-cons}
use Rattle.std.specs.Prelude.{IfSome, ◌||◌, if◌then◌else◌}
use Rattle.std.specs.List.{flat_map, list_any}
use Rattle.std.specs.FinMap as map
use Rattle.std.proofs.lemmas.List.{at_drop_more, drop_all}
use Rattle.std.proofs.lemmas.Option.{get_or_from_slice_get}
use Rattle.base_numbered_lists.proofs.Lists.{slice_get-found}
use Rattle.base_outputs.specs.declared.output.Output.{Output}
use Rattle.base_outputs.specs.Output.{Puts}
use Rattle.generators.specs.declared.level.Level.{Level}
use Rattle.generator_rows.specs.declared.row.GeneratorRow.{GeneratorRow}
use Rattle.generator_rows.specs.declared.rows.TheConstants.{ROWS}
use Rattle.modulators.specs.declared.modulator.Modulator.{Modulator}
use Rattle.bank_parts.specs.declared.parts.Parts.{Parts}
use Rattle.bank_parts.specs.declared.parts.Zone.{Zone}
use Rattle.bank_parts.specs.declared.parts.ZoneOwner.{ZoneOwner}
use Rattle.bank_parts.specs.declared.owners.ZonePlace.TheVariants as place
use Rattle.bank_parts.specs.Owners.{HasPlace, zone_count_at, target_at, entries_at, mods_at}
use Rattle.script_comments.specs.declared.lead.Lead.{Lead}
use Rattle.script_comments.specs.Names.{target_of, numbered, numbered_operator}
use Rattle.script_comments.specs.Zones.{content_has, zone_has, zones_have, target_items, operator_items, zones_comment}
use Rattle.script_comments.specs.Putting.{PutsItems}
use Rattle.script_comments.proofs.ItemLaws.{Listing, listing_start, listing_step, listing_end, listing_member, listing_over, listed_row, items_as, items_then}

module _ {H : Type 0} (xs : List (ZoneOwner H)) (i : ℕ) where
  pub has_zone : (k count : ℕ) → i < length xs → zone_count_at xs i ≡ Some count → k < count
      → HasPlace xs i (place.Zone k)
  has_zone k count lt n less = rw n less

  -- ---- targets

  -- the targets of the remaining zones are still to be put
  abbrev pub ListingZones : {W : Type 0} → (W → Option (List ℕ)) → Output W → Output W → Lead → Lead → Parts → Level
      → ℕ → Type 0
  ListingZones c o p lead next b at k =
      IfSome (slice_get xs i)
      (λ x. Listing c o p lead next (target_items b at x.zones) (target_items b at (drop k x.zones)))

  pub zones_start : {W : Type 0} (c : W → Option (List ℕ)) (o : Output W) (lead : Lead) (b : Parts) (at : Level)
      → i < length xs → ListingZones c o o lead lead b at 0
  zones_start c o lead b at lt =
      let (x, is) = slice_get-found xs i lt in rw is (listing_start (target_items b at x.zones))

  pub zones_step : {W : Type 0} (c : W → Option (List ℕ)) (o p q : Output W) (lead next last : Lead) (b : Parts)
      (at : Level) (k count target : ℕ)
      → i < length xs → zone_count_at xs i ≡ Some count → k < count → target_at xs i k ≡ Some target
      → ListingZones c o p lead next b at k → PutsItems c p q next last (numbered b (target_of at target))
      → ListingZones c o q lead last b at (k + 1)
  zones_step c o p q lead next last b at k count target lt n less t listing put =
      let (x, is) = slice_get-found xs i lt in
      let size : length x.zones ≡ count = (let p = rw is at n in cc p) in
      let (z, there) = slice_get-found x.zones k (omega (arith, size, less)) in
      let to : z.target ≡ target = (let w = rw (is, there) at t in cc w) in
      let own : PutsItems c p q next last (numbered b (target_of at z.target)) = rw to put in
      let split =
      at_drop_more (target_items b at) x.zones k z (omega (arith, size, less))
      ∙ ap (λ (y : Zone). numbered b (target_of at y.target) ++ target_items b at (drop (k + 1) x.zones))
      (get_or_from_slice_get x.zones k z z there) in
      rw is
      (listing_step (numbered b (target_of at z.target)) (target_items b at (drop (k + 1) x.zones)) (rw is at listing)
      split own)

  pub zones_end : {W : Type 0} (c : W → Option (List ℕ)) (o p : Output W) (lead next : Lead) (b : Parts) (at : Level)
      (k count : ℕ)
      → i < length xs → zone_count_at xs i ≡ Some count → count ≤ k → ListingZones c o p lead next b at k
      → IfSome (slice_get xs i) (λ x. PutsItems c o p lead next (target_items b at x.zones))
  zones_end c o p lead next b at k count lt n over listing =
      let (x, is) = slice_get-found xs i lt in
      let size : length x.zones ≡ count = (let p = rw is at n in cc p) in
      let none : target_items b at (drop k x.zones) ≡ [] =
      ap (target_items b at) (drop_all k x.zones (omega (arith, size, over))) in
      rw is (listing_end (rw (is, none) at listing))

  -- ---- operators

  -- whether some zone has an operator depends on the remaining zones
  abbrev pub IsAnyLeft : ℕ → ℕ → Type 0
  IsAnyLeft op k =
      IfSome (slice_get xs i)
      (λ x. list_any (zone_has op) x.zones ≡ list_any (zone_has op) (drop k x.zones))

  pub any_start : (op : ℕ) → i < length xs → IsAnyLeft op 0
  any_start op lt = let (x, is) = slice_get-found xs i lt in rw is refl

  any_at : (op k : ℕ) (x : ZoneOwner H) (z : Zone) → k < length x.zones → slice_get x.zones k ≡ Some z
      → list_any (zone_has op) (drop k x.zones) ≡ zone_has op z || list_any (zone_has op) (drop (k + 1) x.zones)
  any_at op k x z less there =
      ap (list_any (zone_has op)) (drop-cons x.zones k z less)
      ∙ (let a : k + 1 ≡ suc k = omega arith in
      let e : get_or x.zones k z ≡ z = get_or_from_slice_get x.zones k z z there in rw (a, e) refl)

  has_of : (op k : ℕ) (es : List (ℕ × ℕ)) (ms : List Modulator) (x : ZoneOwner H) (z : Zone) (has : Bool)
      → slice_get xs i ≡ Some x → slice_get x.zones k ≡ Some z
      → entries_at xs i (place.Zone k) ≡ Some es → mods_at xs i (place.Zone k) ≡ Some ms → content_has op es ms ≡ has
      → zone_has op z ≡ has
  has_of op k es ms x z has is there entries modulators e =
      let u : map.entries z.gens ≡ es = (let w = rw (is, there) at entries in cc w) in
      let v : z.mods ≡ ms = (let w = rw (is, there) at modulators in cc w) in
      rw (u, v) e

  pub any_step : (op k count : ℕ) (es : List (ℕ × ℕ)) (ms : List Modulator) → i < length xs
      → zone_count_at xs i ≡ Some count → k < count
      → entries_at xs i (place.Zone k) ≡ Some es → mods_at xs i (place.Zone k) ≡ Some ms
      → content_has op es ms ≡ false → IsAnyLeft op k → IsAnyLeft op (k + 1)
  any_step op k count es ms lt n less entries modulators is_false left =
      let (x, is) = slice_get-found xs i lt in
      let size : length x.zones ≡ count = (let p = rw is at n in cc p) in
      let within : k < length x.zones = omega (arith, size, less) in
      let (z, there) = slice_get-found x.zones k within in
      let not_here = has_of op k es ms x z false is there entries modulators is_false in
      rw is
      ((rw is at left) ∙ any_at op k x z within there
      ∙ ap (λ (here : Bool). here || list_any (zone_has op) (drop (k + 1) x.zones)) not_here)

  pub any_found : (op k count : ℕ) (es : List (ℕ × ℕ)) (ms : List Modulator) → i < length xs
      → zone_count_at xs i ≡ Some count → k < count
      → entries_at xs i (place.Zone k) ≡ Some es → mods_at xs i (place.Zone k) ≡ Some ms
      → content_has op es ms ≡ true → IsAnyLeft op k
      → IfSome (slice_get xs i) (λ x. true ≡ list_any (zone_has op) x.zones)
  any_found op k count es ms lt n less entries modulators is_true left =
      let (x, is) = slice_get-found xs i lt in
      let size : length x.zones ≡ count = (let p = rw is at n in cc p) in
      let within : k < length x.zones = omega (arith, size, less) in
      let (z, there) = slice_get-found x.zones k within in
      let here = has_of op k es ms x z true is there entries modulators is_true in
      rw is
      (sym
      ((rw is at left) ∙ any_at op k x z within there
      ∙ ap (λ (here : Bool). here || list_any (zone_has op) (drop (k + 1) x.zones)) here))

  pub any_end : (op k count : ℕ) → i < length xs → zone_count_at xs i ≡ Some count → count ≤ k → IsAnyLeft op k
      → IfSome (slice_get xs i) (λ x. false ≡ list_any (zone_has op) x.zones)
  any_end op k count lt n over left =
      let (x, is) = slice_get-found xs i lt in
      let size : length x.zones ≡ count = (let p = rw is at n in cc p) in
      let none : drop k x.zones ≡ [] = drop_all k x.zones (omega (arith, size, over)) in
      rw is (sym ((rw is at left) ∙ ap (list_any (zone_has op)) none))

  global_of : (op : ℕ) (es : List (ℕ × ℕ)) (ms : List Modulator) (x : ZoneOwner H) (has : Bool)
      → slice_get xs i ≡ Some x → entries_at xs i place.Global ≡ Some es → mods_at xs i place.Global ≡ Some ms
      → content_has op es ms ≡ has → content_has op (map.entries x.global.gens) x.global.mods ≡ has
  global_of op es ms x has is entries modulators e =
      let u : map.entries x.global.gens ≡ es = (let w = rw is at entries in cc w) in
      let v : x.global.mods ≡ ms = (let w = rw is at modulators in cc w) in
      rw (u, v) e

  pub global_has : (op : ℕ) (es : List (ℕ × ℕ)) (ms : List Modulator) → i < length xs
      → entries_at xs i place.Global ≡ Some es → mods_at xs i place.Global ≡ Some ms → content_has op es ms ≡ true
      → IfSome (slice_get xs i) (λ x. true ≡ zones_have x.global x.zones op)
  global_has op es ms lt entries modulators is_true =
      let (x, is) = slice_get-found xs i lt in
      let here = global_of op es ms x true is entries modulators is_true in
      rw is (sym (ap (λ (here : Bool). here || list_any (zone_has op) x.zones) here))

  pub only_zones_have : (op : ℕ) (es : List (ℕ × ℕ)) (ms : List Modulator) (has : Bool) → i < length xs
      → entries_at xs i place.Global ≡ Some es → mods_at xs i place.Global ≡ Some ms → content_has op es ms ≡ false
      → IfSome (slice_get xs i) (λ x. has ≡ list_any (zone_has op) x.zones)
      → IfSome (slice_get xs i) (λ x. has ≡ zones_have x.global x.zones op)
  only_zones_have op es ms has lt entries modulators is_false zones =
      let (x, is) = slice_get-found xs i lt in
      let not_here = global_of op es ms x false is entries modulators is_false in
      rw is ((rw is at zones) ∙ sym (ap (λ (here : Bool). here || list_any (zone_has op) x.zones) not_here))

  -- the operators of the remaining rows are still to be put
  abbrev pub ListingRows : {W : Type 0} → (W → Option (List ℕ)) → Output W → Output W → Lead → Lead → List GeneratorRow
      → ℕ → Type 0
  ListingRows c o p lead next rows r =
      IfSome (slice_get xs i)
      (λ x. Listing c o p lead next (flat_map (listed_row (zones_have x.global x.zones)) rows)
      (flat_map (listed_row (zones_have x.global x.zones)) (drop r rows)))

  pub rows_start : {W : Type 0} (c : W → Option (List ℕ)) (o : Output W) (lead : Lead) (rows : List GeneratorRow)
      → i < length xs → ListingRows c o o lead lead rows 0
  rows_start c o lead rows lt =
      let (x, is) = slice_get-found xs i lt in
      rw is (listing_start (flat_map (listed_row (zones_have x.global x.zones)) rows))

  pub rows_step : {W : Type 0} (c : W → Option (List ℕ)) (o p q : Output W) (lead next last : Lead)
      (rows : List GeneratorRow) (r : ℕ) (row : GeneratorRow) (has : Bool)
      → i < length xs → r < length rows
      → IfSome (slice_get xs i) (λ x. has ≡ zones_have x.global x.zones (get_or rows r row).number)
      → ListingRows c o p lead next rows r
      → PutsItems c p q next last (if has then numbered_operator (get_or rows r row) ∷ [] else [])
      → ListingRows c o q lead last rows (r + 1)
  rows_step c o p q lead next last rows r row has lt less has_it listing put =
      let (x, is) = slice_get-found xs i lt in
      let same : has ≡ zones_have x.global x.zones (get_or rows r row).number = rw is at has_it in
      let own : PutsItems c p q next last (listed_row (zones_have x.global x.zones) (get_or rows r row)) =
      items_as _ _ (ap (λ (h : Bool). if h then numbered_operator (get_or rows r row) ∷ [] else []) same) put in
      rw is (listing_member (listed_row (zones_have x.global x.zones)) rows r row (rw is at listing) less own)

  pub rows_end : {W : Type 0} (c : W → Option (List ℕ)) (o p : Output W) (lead next : Lead) (rows : List GeneratorRow)
      (r : ℕ)
      → i < length xs → length rows ≤ r → rows ≡ ROWS → ListingRows c o p lead next rows r
      → IfSome (slice_get xs i) (λ x. PutsItems c o p lead next (operator_items (zones_have x.global x.zones)))
  rows_end c o p lead next rows r lt over all listing =
      let (x, is) = slice_get-found xs i lt in
      rw is
      (items_as _ _ (ap (flat_map (listed_row (zones_have x.global x.zones))) all)
      (listing_over (listed_row (zones_have x.global x.zones)) rows r (rw is at listing) over))

  -- ---- the whole comment

  pub puts_comment : {W : Type 0} (c : W → Option (List ℕ)) (o p q : Output W) (next last : Lead) (b : Parts)
      (at : Level)
      → i < length xs
      → IfSome (slice_get xs i)
      (λ x. PutsItems c o p (record { is_begun = false; has_commas = true }) next (target_items b at x.zones))
      → IfSome (slice_get xs i) (λ x. PutsItems c p q next last (operator_items (zones_have x.global x.zones)))
      → IfSome (slice_get xs i) (λ x. Puts c o q (zones_comment b at x.global x.zones))
  puts_comment c o p q next last b at lt h k =
      let (x, is) = slice_get-found xs i lt in
      rw is
      (items_then (target_items b at x.zones) (operator_items (zones_have x.global x.zones)) (rw is at h)
      (rw is at k)).puts
