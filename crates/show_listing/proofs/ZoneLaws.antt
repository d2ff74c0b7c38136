-- The lines of zones, written one by one.
use Rattle.std.proofs.Common.{◌≡◌, ◌≤◌, ◌<◌, ◌+◌, ◌++◌, ℕ, false, List, [], ◌∷◌, length, drop, slice_get, Option}
use Rattle.std.proofs.Common.{Some, codes, refl, sym, arith}
use Rattle.std.specs.Prelude.{◌==◌, IfSome}
use Rattle.std.specs.Option.{option_map}
use Rattle.std.specs.FinMap.{len}
use Rattle.std.proofs.lemmas.Bool.{ne_eqb}
use Rattle.std.specs.List.{flat_map}
use Rattle.std.proofs.lemmas.List.Concat.{flat_map-append}
use Rattle.std.proofs.lemmas.Option.{get_or_from_slice_get}
use Rattle.base_numbered_lists.proofs.Lists.{slice_get-found}
use Rattle.base_outputs.specs.declared.output.Output.{Output}
use Rattle.base_outputs.specs.Output.{Puts}
use Rattle.base_outputs.proofs.OutputLaws.{puts_as, puts_then, Putting, putting_start, putting_step, putting_end}
use Rattle.bank_parts.specs.declared.parts.ZoneOwner.{ZoneOwner}
use Rattle.bank_parts.specs.declared.owners.ZonePlace.TheVariants as place
use Rattle.bank_parts.specs.Owners.{HasPlace, zone_count_at, zone_at, gens_at, mods_at}
use Rattle.script_tokens.specs.declared.printing.Piece.{Piece}
use Rattle.script_tokens.specs.declared.printing.Piece.TheVariants.{Number, Word}
use Rattle.script_tokens.specs.Printing.{spaced, line_text}
use Rattle.script_tokens.proofs.PrintLaws.{puts_line}
use Rattle.script_grammar.specs.Operands.{pieces_of}
use Rattle.script_grammar.specs.Zones.{items_of, global_of, global_operands}
use Rattle.show_listing.specs.Listing.{lines_from}
use Rattle.show_listing.specs.Details.{zone_line, global_line}
use Rattle.show_listing.proofs.ListLaws.{lines_at, lines_over}

-- a line whose pieces are written in two parts
pub puts_line_parts : {W : Type 0} {c : W → Option (List ℕ)} {o p q r s : Output W} (w : List ℕ)
    (front back : List Piece)
    → Puts c o p w → Puts c p q (flat_map spaced front) → Puts c q r (flat_map spaced back) → Puts c r s (10 ∷ [])
    → Puts c o s (line_text w (front ++ back))
puts_line_parts w front back h k l m =
    puts_line w (front ++ back) h (puts_as _ _ (sym (flat_map-append spaced front back)) (puts_then _ _ k l)) m

module _ {H : Type 0} (member : List ℕ) (xs : List (ZoneOwner H)) (i : ℕ) where
  -- the line of a global zone that is not empty
  pub puts_global_line : {W : Type 0} {c : W → Option (List ℕ)} {o p q r s : Output W} (gens mods : ℕ)
      → i < length xs → option_map len (gens_at xs i place.Global) ≡ Some gens
      → option_map length (mods_at xs i place.Global) ≡ Some mods → 0 < gens + mods
      → Puts c o p (codes "zone") → Puts c p q (flat_map spaced (Word member ∷ Number i ∷ Word (codes "global") ∷ []))
      → IfSome (slice_get xs i)
      (λ x. Puts c q r (flat_map spaced (pieces_of (global_operands (global_of x.global)))))
      → Puts c r s (10 ∷ [])
      → IfSome (slice_get xs i) (λ x. Puts c o s (global_line member i (global_of x.global)))
  puts_global_line gens mods lt g m some h k own end =
      let (x, is) = slice_get-found xs i lt in
      let a : len x.global.gens ≡ gens = (let p = rw is at g in cc p) in
      let b : length x.global.mods ≡ mods = (let p = rw is at m in cc p) in
      let e : (len x.global.gens + length x.global.mods == 0) ≡ false =
      ne_eqb _ _ (λ z. omega (arith, a, b, some, z)) in
      let there : global_of x.global ≡ Some (items_of x.global.gens x.global.mods) = rw e refl in
      let content = rw there at rw is at own in
      rw (is, there)
      (puts_line_parts (codes "zone") (Word member ∷ Number i ∷ Word (codes "global") ∷ [])
      (pieces_of (global_operands (Some (items_of x.global.gens x.global.mods)))) h k content end)

  -- the lines of the remaining zones are still to be written
  abbrev pub PuttingZones : {W : Type 0} → (W → Option (List ℕ)) → Output W → Output W → ℕ → Type 0
  PuttingZones c o p k =
      IfSome (slice_get xs i)
      (λ x.
      Putting c o p (lines_from (zone_line member i) 0 x.zones)
      (lines_from (zone_line member i) k (drop k x.zones)))

  pub zones_start : {W : Type 0} (c : W → Option (List ℕ)) (o : Output W) → i < length xs → PuttingZones c o o 0
  zones_start c o lt =
      let (x, is) = slice_get-found xs i lt in rw is (putting_start (lines_from (zone_line member i) 0 x.zones))

  pub has_zone : (k count : ℕ) → i < length xs → zone_count_at xs i ≡ Some count → k < count
      → HasPlace xs i (place.Zone k)
  has_zone k count lt n less = rw n less

  pub zones_more : {W : Type 0} (c : W → Option (List ℕ)) (o p q : Output W) (k count : ℕ) → i < length xs
      → zone_count_at xs i ≡ Some count → k < count → PuttingZones c o p k
      → IfSome (zone_at xs i k) (λ z. Puts c p q (zone_line member i k z)) → PuttingZones c o q (k + 1)
  zones_more c o p q k count lt n less putting put =
      let (x, is) = slice_get-found xs i lt in
      let size : length x.zones ≡ count = (let p = rw is at n in cc p) in
      let there : k < length x.zones = omega (arith, size, less) in
      let (z, found) = slice_get-found x.zones k there in
      let next = lines_at (zone_line member i) x.zones k z there (sym (get_or_from_slice_get x.zones k z z found)) in
      rw is
      (putting_step (zone_line member i k z) (lines_from (zone_line member i) (k + 1) (drop (k + 1) x.zones))
      (rw is at putting) next (rw (is, found) at put))

  pub zones_end : {W : Type 0} (c : W → Option (List ℕ)) (o p : Output W) (k count : ℕ) → i < length xs
      → zone_count_at xs i ≡ Some count → count ≤ k → PuttingZones c o p k
      → IfSome (slice_get xs i) (λ x. Puts c o p (lines_from (zone_line member i) 0 x.zones))
  zones_end c o p k count lt n over putting =
      let (x, is) = slice_get-found xs i lt in
      let size : length x.zones ≡ count = (let p = rw is at n in cc p) in
      let none : lines_from (zone_line member i) k (drop k x.zones) ≡ [] =
      lines_over (zone_line member i) x.zones k (omega (arith, size, over)) in
      rw is (putting_end (rw (is, none) at putting))
