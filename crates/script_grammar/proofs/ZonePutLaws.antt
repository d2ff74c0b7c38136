-- A line that is written zone by zone and item by item has all their operands.
use Rattle.std.proofs.Common.{◌≡◌, ◌<◌, ◌+◌, drop, get_or, ℕ, false, List, [], ◌∷◌, ◌++◌, map, codes, length, Option}
use Rattle.std.proofs.Common.{refl, sym, ap, subst, ◌∙◌, append_assoc}
use Rattle.std.specs.Prelude.{◌==◌}
use Rattle.std.specs.List.{flat_map}
use Rattle.std.specs.FinMap.{len}
use Rattle.base_outputs.specs.declared.output.Output.{Output}
use Rattle.base_outputs.specs.Output.{Puts}
use Rattle.base_outputs.proofs.OutputLaws.{puts_as, Putting, putting_member}
use Rattle.modulators.specs.declared.modulator.Modulator.{Modulator}
use Rattle.bank_parts.specs.declared.parts.GlobalZone.{GlobalZone}
use Rattle.bank_parts.specs.declared.parts.Zone.{Zone}
use Rattle.script_tokens.specs.Parsers.{most_word}
use Rattle.script_grammar.specs.declared.items.Item.{Item}
use Rattle.script_grammar.specs.declared.items.Item.TheVariants as item
use Rattle.script_grammar.specs.Operands.{Operand, Fixed, Number}
use Rattle.script_grammar.specs.Items.{item_operands, items_operands}
use Rattle.script_grammar.specs.Zones.{listed_items, items_of, global_of, global_operands, zone_operands}
use Rattle.script_grammar.specs.Zones.{written_zone, written_of, written_operands}
use Rattle.script_grammar.proofs.PutLaws.{spaced_out, spaced_both, puts_both}

abbrev pub zone_text : Zone → List ℕ
zone_text z = spaced_out (zone_operands (written_zone z))

abbrev pub generator_text : ℕ × ℕ → List ℕ
generator_text e = spaced_out (item_operands (item.Generator e.0 e.1))

abbrev pub modulator_text : Modulator → List ℕ
modulator_text m = spaced_out (item_operands (item.Modulator m))

-- writing each member writes the whole list
spaced_all : {X Y : Type 0} (encoding : Y → List Operand) (of : X → Y) (xs : List X)
    → flat_map (λ (x : X). spaced_out (encoding (of x))) xs ≡ spaced_out (flat_map encoding (map of xs))
spaced_all encoding of [] = refl
spaced_all encoding of (x ∷ xs) =
    ap (λ (t : List ℕ). spaced_out (encoding (of x)) ++ t) (spaced_all encoding of xs)
    ∙ sym (spaced_both (encoding (of x)) (flat_map encoding (map of xs)))

-- the operands of two lists of items
both_lists : (is js : List Item)
    → flat_map item_operands (is ++ js) ≡ flat_map item_operands is ++ flat_map item_operands js
both_lists [] js = refl
both_lists (i ∷ is) js =
    ap (λ (os : List Operand). item_operands i ++ os) (both_lists is js)
    ∙ sym (append_assoc (item_operands i) (flat_map item_operands is) (flat_map item_operands js))

abbrev generator_item : ℕ × ℕ → Item
generator_item e = item.Generator e.0 e.1

abbrev modulator_item : Modulator → Item
modulator_item m = item.Modulator m

module _ {W : Type 0} {c : W → Option (List ℕ)} where
  -- a member, in a loop over all of them
  pub member_on : {X : Type 0} {o p q : Output W} {whole : List ℕ} (f : X → List ℕ) (xs : List X) (x : X) (i : ℕ)
      → Putting c o p whole (flat_map f (drop i xs)) → i < length xs → x ≡ get_or xs i x → Puts c p q (f x)
      → Putting c o q whole (flat_map f (drop (i + 1) xs))
  member_on {X} {p = p} {q} f xs x i s h e k = putting_member f xs i x s h (subst (λ (y : X). Puts c p q (f y)) e k)

  pub puts_items : {o p q r : Output W} (es : List (ℕ × ℕ)) (mods : List Modulator)
      → Puts c o p (flat_map generator_text es) → Puts c p q (flat_map modulator_text mods)
      → Puts c q r (spaced_out (Fixed (codes "}") ∷ []))
      → Puts c o r (spaced_out (items_operands (listed_items es mods)))
  puts_items {o} {p} {q} {r} es mods h k l =
      let gs = map generator_item es in
      let ms = map modulator_item mods in
      let first : Puts c o p (spaced_out (flat_map item_operands gs)) =
      puts_as _ _ (spaced_all item_operands generator_item es) h in
      let second : Puts c p q (spaced_out (flat_map item_operands ms)) =
      puts_as _ _ (spaced_all item_operands modulator_item mods) k in
      let both : Puts c o q (spaced_out (flat_map item_operands (gs ++ ms))) =
      puts_as _ _ (ap spaced_out (sym (both_lists gs ms)))
      (puts_both (flat_map item_operands gs) (flat_map item_operands ms) first second) in
      puts_both (flat_map item_operands (gs ++ ms)) (Fixed (codes "}") ∷ []) both l

  pub puts_zone : {o p q : Output W} (z : Zone)
      → Puts c o p (spaced_out (Fixed (codes "{") ∷ Number most_word z.target ∷ []))
      → Puts c p q (spaced_out (items_operands (items_of z.gens z.mods))) → Puts c o q (zone_text z)
  puts_zone z h k =
      puts_both (Fixed (codes "{") ∷ Number most_word z.target ∷ []) (items_operands (items_of z.gens z.mods)) h k

  pub puts_global : {o p q : Output W} (g : GlobalZone) → (len g.gens + length g.mods == 0) ≡ false
      → Puts c o p (spaced_out (Fixed (codes "{") ∷ Fixed (codes "global") ∷ []))
      → Puts c p q (spaced_out (items_operands (items_of g.gens g.mods)))
      → Puts c o q (spaced_out (global_operands (global_of g)))
  puts_global {o} {p} {q} g e h k =
      rw e
      (puts_both (Fixed (codes "{") ∷ Fixed (codes "global") ∷ []) (items_operands (items_of g.gens g.mods)) h k)

  pub puts_zones : {o p q : Output W} (g : GlobalZone) (zs : List Zone)
      → Puts c o p (spaced_out (global_operands (global_of g))) → Puts c p q (flat_map zone_text zs)
      → Puts c o q (spaced_out (written_operands (written_of g zs)))
  puts_zones {o} {p} {q} g zs h k =
      puts_both (global_operands (global_of g)) (flat_map zone_operands (map written_zone zs)) h
      (puts_as _ _ (spaced_all zone_operands written_zone zs) k)
