-- Zones on a line have a value that fits, and zones that fit have operands with that value.
use Rattle.std.proofs.Common.{◌≡◌, ◌≤◌, ◌<◌, ◌^◌, ◌+◌, ◌/◌, ◌%◌, ℕ, ℤ, pos, negsuc, Bool, true, false, cond, eqb}
use Rattle.std.proofs.Common.{eqb-true, ◌==◌, List, [], ◌∷◌, ◌++◌, length, map, Option, Some, None, refl, sym, ap}
use Rattle.std.proofs.Common.{◌∙◌, append_assoc, arith, inl, inr, FitsSigned}
use Rattle.std.specs.Prelude.{IsTrue}
use Rattle.std.specs.Int.{w16}
use Rattle.std.specs.Ordering.{is_lt}
use Rattle.std.specs.List.{flat_map, AllByRecursion, list_any}
use Rattle.std.specs.FinMap.{entries, from_entries, insert, len, is_sorted, empty_of_len}
use Rattle.std.specs.FinMap.Entries.{below_all}
use Rattle.std.proofs.lemmas.List.{append-nil}
use Rattle.std.proofs.lemmas.Bool.{cases_eq, ne_eqb}
use Rattle.std.proofs.lemmas.Bool.Decides.{nat_tests}
use Rattle.generators.specs.Gens.{operator_cmp, Gens, no_gens, set_in_order, last_of_each, FitsEntry, FitEntries}
use Rattle.generators.specs.Gens.{FitGens}
use Rattle.generators.specs.Ranges.{is_range_operator}
use Rattle.generators.proofs.Entries.{both_true}
use Rattle.generators.proofs.EntryLaws.{All-insert, All-no_gens, from_entries-entries}
use Rattle.generators.proofs.Maps.{entries_rise}
use Rattle.generators.proofs.SettingLaws.{last_of_each_count}
use Rattle.modulators.specs.declared.modulator.Modulator.{Modulator}
use Rattle.modulators.specs.Modulators.{FitsModulator}
use Rattle.bank_parts.specs.declared.parts.GlobalZone.{GlobalZone}
use Rattle.bank_parts.specs.declared.parts.Zone.{Zone}
use Rattle.bank_parts.specs.Fits.{FitsGlobal, FitsZone}
use Rattle.script_tokens.specs.Parsers.{most_word}
use Rattle.script_tokens.specs.TextForm.{IsWithin}
use Rattle.script_grammar.specs.declared.items.Item.{Item}
use Rattle.script_grammar.specs.declared.items.Item.TheVariants as item
use Rattle.script_grammar.specs.Operands.{Amount, Range}
use Rattle.script_grammar.specs.Items.{amount_operand, generator_operands, modulator_operands, item_operands}
use Rattle.script_grammar.specs.Items.{items_operands, no_content, with_item, with_items, content_of}
use Rattle.script_grammar.specs.Zones.{Written, WrittenZone, zone_operands, global_operands, written_operands}
use Rattle.script_grammar.specs.Zones.{zone_of, zone_in, global_in, zones_in, items_of, global_of, written_zone}
use Rattle.script_grammar.specs.Zones.{written_of}
use Rattle.script_grammar.proofs.OperandLaws.{FitsOperand, AllFit, both_fit}
use Rattle.script_grammar.proofs.FitLaws.{Ranged, AllRanged, following, word16}

-- ---- the operands that are printed for zones have the zones' value

-- no operator occurs twice in a map
other_operator : (op x : ℕ) → IsTrue (is_lt (operator_cmp op x)) → eqb x op ≡ false
other_operator op x h = elim (cases_eq x op) [
  | inl e ↦ absurd (grind (arith, nat_tests))
  | inr n ↦ ne_eqb x op n
]

append_no_bags : (op : ℕ) (es : List (ℕ × ℕ)) → IsTrue (below_all operator_cmp op es)
    → list_any (λ (x : ℕ × ℕ). x.0 == op) es ≡ false
append_no_bags op [] h = refl
append_no_bags op (e ∷ es) h =
    let both = both_true (is_lt (operator_cmp op e.0)) (below_all operator_cmp op es) h in
    rw (other_operator op e.0 both.0) (append_no_bags op es both.1)

each_is_last : (es : List (ℕ × ℕ)) → IsTrue (is_sorted operator_cmp es) → last_of_each es ≡ es
each_is_last [] h = refl
each_is_last (e ∷ es) h =
    let both = both_true (below_all operator_cmp e.0 es) (is_sorted operator_cmp es) h in
    rw (append_no_bags e.0 es both.0) (ap (λ (xs : List (ℕ × ℕ)). e ∷ xs) (each_is_last es both.1))

entries_set : (m : Gens) → set_in_order no_gens (entries m) ≡ m
entries_set m =
    last_of_each_count (entries m)
    ∙ ap (λ (es : List (ℕ × ℕ)). from_entries es) (each_is_last (entries m) (entries_rise m))
    ∙ from_entries-entries m

abbrev generator_items : List (ℕ × ℕ) → List Item
generator_items es = map (λ (e : ℕ × ℕ). item.Generator e.0 e.1) es

abbrev modulator_items : List Modulator → List Item
modulator_items ms = map (λ (m : Modulator). item.Modulator m) ms

with_generators : (es : List (ℕ × ℕ)) (content : GlobalZone) (more : List Item)
    → with_items content (generator_items es ++ more)
    ≡ with_items (record content { gens = set_in_order content.gens es }) more
with_generators [] content more = refl
with_generators (e ∷ es) content more = with_generators es (record content { gens = insert content.gens e.0 e.1 }) more

with_modulators : (ms : List Modulator) (content : GlobalZone)
    → with_items content (modulator_items ms) ≡ record content { mods = content.mods ++ ms }
with_modulators [] content = ap (λ (ms : List Modulator). record content { mods = ms }) (sym (append-nil content.mods))
with_modulators (m ∷ ms) content =
    with_modulators ms (record content { mods = content.mods ++ m ∷ [] })
    ∙ ap (λ (xs : List Modulator). record content { mods = xs }) (append_assoc content.mods (m ∷ []) ms)

content_reads_back : (content : GlobalZone) → content_of (items_of content.gens content.mods) ≡ content
content_reads_back content =
    with_generators (entries content.gens) no_content (modulator_items content.mods)
    ∙ with_modulators content.mods (record no_content { gens = set_in_order no_gens (entries content.gens) })
    ∙ ap (λ (m : Gens). record content { gens = m }) (entries_set content.gens)

pub zone_reads_back : (z : Zone) → zone_in (written_zone z) ≡ z
zone_reads_back z = ap (zone_of z.target) (content_reads_back (record { gens = z.gens; mods = z.mods }))

all_read_back : (zs : List Zone) → map zone_in (map written_zone zs) ≡ zs
all_read_back [] = refl
all_read_back (z ∷ zs) =
    ap (λ (x : Zone). x ∷ map zone_in (map written_zone zs)) (zone_reads_back z)
    ∙ ap (λ (xs : List Zone). z ∷ xs) (all_read_back zs)

no_modulators : (ms : List Modulator) → length ms ≡ 0 → ms ≡ []
no_modulators [] h = refl
no_modulators (m ∷ ms) h = absurd (omega (arith, h))

no_content_reads_back : (g : GlobalZone) → len g.gens + length g.mods ≡ 0 → no_content ≡ g
no_content_reads_back g n =
    let gens : g.gens ≡ no_gens = empty_of_len g.gens (omega (arith, n)) in
    let mods = no_modulators g.mods (omega (arith, n)) in
    sym
    (ap (λ (m : Gens). record g { gens = m }) gens
    ∙ ap (λ (ms : List Modulator). record no_content { mods = ms }) mods)

global_reads_back : (g : GlobalZone) → global_in (global_of g) ≡ g
global_reads_back g = from (len g.gens + length g.mods == 0) refl
  where
    from : (b : Bool) → (len g.gens + length g.mods == 0) ≡ b
        → global_in (cond b None (Some (items_of g.gens g.mods))) ≡ g
    from true k = no_content_reads_back g (eqb-true (len g.gens + length g.mods) 0 k)
    from false k = content_reads_back g

pub zones_read_back : (g : GlobalZone) (zs : List Zone) → zones_in (written_of g zs) ≡ (g, zs)
zones_read_back g zs =
    ap (λ (x : GlobalZone). (x, map zone_in (map written_zone zs))) (global_reads_back g)
    ∙ ap (λ (ys : List Zone). (g, ys)) (all_read_back zs)

-- ---- the value of zones on a line fits

word_low : (n : ℕ) → n ≤ most_word → n < 2 ^ 16
word_low n h = omega (arith, h)

amount_fits : (operator a : ℕ) → Ranged (amount_operand operator a) → a < 2 ^ 16
amount_fits operator a h = from (is_range_operator operator) h
  where
    from : (b : Bool) → Ranged (cond b (Range (a % 256) (a / 256)) (Amount a)) → a < 2 ^ 16
    from true k = let high = k.1 in omega (arith, high)
    from false k = k

signed_fits : (z : ℤ) → IsWithin 32767 z → FitsSigned w16 z
signed_fits (pos n) h = record { sfits = omega (arith, h) }
signed_fits (negsuc n) h = record { sfits = omega (arith, h) }

pub generator_fits : (operator a : ℕ) → AllRanged (generator_operands operator a) → FitsEntry (operator, a)
generator_fits operator a h = (word_low operator h.0, amount_fits operator a h.1.0)

pub modulator_fits : (m : Modulator) → AllRanged (modulator_operands m) → FitsModulator m
modulator_fits m h = record {
  source = word_low m.source h.0;
  dest = word_low m.dest h.1.0;
  amount = signed_fits m.amount h.1.1.0;
  amount_source = word_low m.amount_source h.1.1.1.0;
  transform = word_low m.transform h.1.1.1.1.0;
}

after_others : {X : Type 0} (P : X → Type 0) (xs : List X) (x : X) → AllByRecursion P xs → P x
    → AllByRecursion P (xs ++ x ∷ [])
after_others P [] x h p = (p, tt)
after_others P (y ∷ ys) x h p = (h.0, after_others P ys x h.1 p)

item_fits : (content : GlobalZone) (i : Item) → FitsGlobal content → AllRanged (item_operands i)
    → FitsGlobal (with_item content i)
item_fits content (item.Generator operator a) f h =
    record
    { gens = All-insert FitsEntry content.gens operator a (generator_fits operator a h.1) f.gens; mods = f.mods }
item_fits content (item.Modulator m) f h =
    record { gens = f.gens; mods = after_others FitsModulator content.mods m f.mods (modulator_fits m h.1) }

items_fit_on : (is : List Item) (content : GlobalZone) → FitsGlobal content → AllRanged (flat_map item_operands is)
    → FitsGlobal (with_items content is)
items_fit_on [] content f h = f
items_fit_on (i ∷ is) content f h =
    let b = following (item_operands i) (flat_map item_operands is) h in
    items_fit_on is (with_item content i) (item_fits content i f b.0) b.1

none_fits : FitsGlobal no_content
none_fits = record { gens = All-no_gens FitsEntry; mods = tt }

items_fit : (is : List Item) → AllRanged (items_operands is) → FitsGlobal (content_of is)
items_fit is h = items_fit_on is no_content none_fits (following (flat_map item_operands is) _ h).0

pub zone_fits : (z : WrittenZone) → AllRanged (zone_operands z) → FitsZone (zone_in z)
zone_fits z h =
    let f = items_fit z.items h.1.1 in record { target = word_low z.target h.1.0; gens = f.gens; mods = f.mods }

all_fit : (ws : List WrittenZone) → AllRanged (flat_map zone_operands ws) → AllByRecursion FitsZone (map zone_in ws)
all_fit [] h = tt
all_fit (w ∷ ws) h = let b = following (zone_operands w) (flat_map zone_operands ws) h in (zone_fits w b.0, all_fit ws b.1)

global_fits : (g : Option (List Item)) → AllRanged (global_operands g) → FitsGlobal (global_in g)
global_fits None h = none_fits
global_fits (Some is) h = items_fit is h.1.1

pub zones_ranged : (w : Written) → AllRanged (written_operands w)
    → FitsGlobal (global_in w.global) × AllByRecursion FitsZone (map zone_in w.zones)
zones_ranged w h =
    let b = following (global_operands w.global) (flat_map zone_operands w.zones) h in
    (global_fits w.global b.0, all_fit w.zones b.1)

-- ---- zones that fit can be encoded

amount_operand_fits : (operator a : ℕ) → a < 2 ^ 16 → FitsOperand (amount_operand operator a)
amount_operand_fits operator a h = from (is_range_operator operator)
  where
    from : (b : Bool) → FitsOperand (cond b (Range (a % 256) (a / 256)) (Amount a))
    from true = (omega arith, omega (arith, h))
    from false = h

fits_within : (z : ℤ) → FitsSigned w16 z → IsWithin 32767 z
fits_within (pos n) v = let h : n < 2 ^ 15 = v.sfits in omega (arith, h)
fits_within (negsuc n) v = let h : n < 2 ^ 15 = v.sfits in omega (arith, h)

pub generator_operands_fit : (operator a : ℕ) → FitsEntry (operator, a) → AllFit (generator_operands operator a)
generator_operands_fit operator a h = (word16 operator h.0, (amount_operand_fits operator a h.1, tt))

pub modulator_operands_fit : (m : Modulator) → FitsModulator m → AllFit (modulator_operands m)
modulator_operands_fit m h = (
  word16 m.source h.source,
  (
    word16 m.dest h.dest,
    (
      (fits_within m.amount h.amount, omega arith),
      (word16 m.amount_source h.amount_source, (word16 m.transform h.transform, tt)),
    ),
  ),
)

generator_items_fit : (es : List (ℕ × ℕ)) (more : List Item) → FitEntries es → AllFit (flat_map item_operands more)
    → AllFit (flat_map item_operands (generator_items es ++ more))
generator_items_fit [] more h k = k
generator_items_fit (e ∷ es) more h k =
    both_fit (item_operands (item.Generator e.0 e.1)) (flat_map item_operands (generator_items es ++ more))
    ((refl, refl), generator_operands_fit e.0 e.1 h.0) (generator_items_fit es more h.1 k)

modulator_items_fit : (ms : List Modulator) → AllByRecursion FitsModulator ms
    → AllFit (flat_map item_operands (modulator_items ms))
modulator_items_fit [] h = tt
modulator_items_fit (m ∷ ms) h =
    both_fit (item_operands (item.Modulator m)) (flat_map item_operands (modulator_items ms))
    ((refl, refl), modulator_operands_fit m h.0) (modulator_items_fit ms h.1)

content_operands_fit : (gens : Gens) (mods : List Modulator) → FitGens gens → AllByRecursion FitsModulator mods
    → AllFit (items_operands (items_of gens mods))
content_operands_fit gens mods h k =
    both_fit (flat_map item_operands (items_of gens mods)) _
    (generator_items_fit (entries gens) (modulator_items mods) h (modulator_items_fit mods k)) ((refl, refl), tt)

pub zone_operands_fit : (z : Zone) → FitsZone z → AllFit (zone_operands (written_zone z))
zone_operands_fit z h = ((refl, refl), (word16 z.target h.target, content_operands_fit z.gens z.mods h.gens h.mods))

zones_operands_fit : (zs : List Zone) → AllByRecursion FitsZone zs
    → AllFit (flat_map zone_operands (map written_zone zs))
zones_operands_fit [] h = tt
zones_operands_fit (z ∷ zs) h =
    both_fit (zone_operands (written_zone z)) (flat_map zone_operands (map written_zone zs)) (zone_operands_fit z h.0)
    (zones_operands_fit zs h.1)

global_operands_fit : (g : GlobalZone) → FitsGlobal g → AllFit (global_operands (global_of g))
global_operands_fit g h = from (len g.gens + length g.mods == 0)
  where
    from : (b : Bool) → AllFit (global_operands (cond b None (Some (items_of g.gens g.mods))))
    from true = tt
    from false = ((refl, refl), ((refl, refl), content_operands_fit g.gens g.mods h.gens h.mods))

pub zones_fit : (g : GlobalZone) (zs : List Zone) → FitsGlobal g → AllByRecursion FitsZone zs
    → AllFit (written_operands (written_of g zs))
zones_fit g zs h k =
    both_fit (global_operands (global_of g)) (flat_map zone_operands (map written_zone zs)) (global_operands_fit g h)
    (zones_operands_fit zs k)
