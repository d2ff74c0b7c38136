-- Items and zones consume tokens, and lists of them are read one by one.
use Rattle.std.proofs.Common.{◌≡◌, ℕ, true, false, List, [], codes, None, Ok, Err, refl}
use Rattle.std.specs.Str.{bytes_eq}
use Rattle.generators.specs.Ranges.{is_range_operator}
use Rattle.bank_parts.specs.declared.parts.GlobalZone.{GlobalZone}
use Rattle.bank_parts.specs.declared.parts.Zone.{Zone}
use Rattle.script_tokens.specs.declared.cursor.TokenValue.{TokenValue}
use Rattle.script_tokens.specs.declared.fault.LineFault.{LineFault}
use Rattle.script_tokens.specs.declared.fault.LineFault.TheVariants as faults
use Rattle.script_tokens.specs.Parsers.{Parsed, ◌>>=◌, pure, or_fault, is_next, word, most_word, number, signed, range}
use Rattle.script_grammar.specs.declared.items.Item.{Item}
use Rattle.script_grammar.specs.Names.{fixed_by, fixed}
use Rattle.script_grammar.specs.Items.{amount, generator, modulator, item_after_word, an_item, closed, with_item}
use Rattle.script_grammar.specs.Items.{items_on, items, no_content}
use Rattle.script_grammar.specs.Zones.{opened, zone_after_brace, zone}
use Rattle.script_grammar.specs.Zones.{is_end, with_zone, remaining_zones, global_after_brace}
use Rattle.script_grammar.specs.Zones.{first_zone_after_brace, zones_after_brace, zones}
use Rattle.script_grammar.proofs.RepeatedLaws.{Keeps, Shortens, shortens_keeps, pure_keeps, fault_keeps, then_keeps}
use Rattle.script_grammar.proofs.RepeatedLaws.{then_shortens, either_keeps, word_shortens, number_shortens}
use Rattle.script_grammar.proofs.RepeatedLaws.{signed_shortens, range_shortens, repeated_ends, repeated_continues}
use Rattle.script_grammar.proofs.RepeatedLaws.{repeated_fails, repeated_keeps}

-- ---- consumed tokens

pub number_keeps : (limit : ℕ) → Keeps (number limit)
number_keeps limit = shortens_keeps (number limit) (number_shortens limit)

pub signed_keeps : (limit : ℕ) → Keeps (signed limit)
signed_keeps limit = shortens_keeps (signed limit) (signed_shortens limit)

amount_keeps : (operator : ℕ) → Keeps (amount operator)
unfolding amount
amount_keeps operator =
    either_keeps (is_range_operator operator) _ _
    (then_keeps range _ (shortens_keeps range range_shortens) (λ ends. pure_keeps _))
    (then_keeps (signed 32767) _ (signed_keeps 32767) (λ z. pure_keeps _))

pub generator_keeps : Keeps generator
unfolding generator
generator_keeps =
    then_keeps (number most_word) _ (number_keeps most_word)
    (λ operator. then_keeps (amount operator) _ (amount_keeps operator) (λ a. pure_keeps _))

pub modulator_keeps : Keeps modulator
unfolding modulator
modulator_keeps =
    then_keeps (number most_word) _ (number_keeps most_word) (λ source.
    then_keeps (number most_word) _ (number_keeps most_word) (λ dest.
    then_keeps (signed 32767) _ (signed_keeps 32767) (λ a.
    then_keeps (number most_word) _ (number_keeps most_word) (λ amount_source.
    then_keeps (number most_word) _ (number_keeps most_word) (λ transform. pure_keeps _)))))

item_after_word_keeps : (w : List ℕ) → Keeps (item_after_word w)
unfolding item_after_word
item_after_word_keeps w =
    either_keeps (bytes_eq w (codes "g")) _ _ (then_keeps generator _ generator_keeps (λ e. pure_keeps _))
    (either_keeps (bytes_eq w (codes "m")) _ _ (then_keeps modulator _ modulator_keeps (λ m. pure_keeps _))
    (fault_keeps faults.Syntax None))

pub item_shortens : Shortens an_item
unfolding an_item
item_shortens = then_shortens word item_after_word word_shortens item_after_word_keeps

closed_keeps : (content : GlobalZone) → Keeps (closed content)
unfolding closed
closed_keeps content = then_keeps word _ (shortens_keeps word word_shortens) (λ w. pure_keeps content)

pub items_keeps : Keeps items
unfolding items items_on
items_keeps line t e =
    repeated_keeps (is_next (codes "}")) closed an_item with_item closed_keeps (shortens_keeps an_item item_shortens)
    no_content line t e

pub fixed_shortens : (text : List ℕ) → Shortens (fixed text)
unfolding fixed fixed_by
fixed_shortens text =
    then_shortens word (fixed_by text) word_shortens
    (λ w.
    either_keeps (bytes_eq w text) (pure tt) (or_fault faults.Syntax None) (pure_keeps tt)
    (fault_keeps faults.Syntax None))

pub zone_after_brace_keeps : Keeps zone_after_brace
unfolding zone_after_brace
zone_after_brace_keeps =
    then_keeps (number most_word) _ (number_keeps most_word)
    (λ target. then_keeps items _ items_keeps (λ content. pure_keeps _))

pub zone_shortens : Shortens zone
unfolding zone
zone_shortens = then_shortens opened _ (fixed_shortens (codes "{")) (λ o. zone_after_brace_keeps)

-- ---- a list of items

pub items_end : (content : GlobalZone) (line : List TokenValue) → is_next (codes "}") line ≡ true
    → items_on content line ≡ closed content line
unfolding items_on
items_end content line e = repeated_ends (is_next (codes "}")) closed an_item with_item content line e

pub items_go_on : (content : GlobalZone) (line : List TokenValue) (t : Parsed Item) → is_next (codes "}") line ≡ false
    → an_item line ≡ Ok t → items_on content line ≡ items_on (with_item content t.value) t.rest
unfolding items_on
items_go_on content line t e i =
    repeated_continues (is_next (codes "}")) closed an_item with_item item_shortens content line t e i

pub items_fail : (content : GlobalZone) (line : List TokenValue) (d : LineFault) → is_next (codes "}") line ≡ false
    → an_item line ≡ Err d → items_on content line ≡ Err d
unfolding items_on
items_fail content line d e i = repeated_fails (is_next (codes "}")) closed an_item with_item content line d e i

-- ---- a list of zones

pub zones_end : (zs : List Zone) (line : List TokenValue) → is_end line ≡ true → remaining_zones zs line ≡ pure zs line
unfolding remaining_zones
zones_end zs line e = repeated_ends is_end pure zone with_zone zs line e

pub zones_go_on : (zs : List Zone) (line : List TokenValue) (t : Parsed Zone) → is_end line ≡ false → zone line ≡ Ok t
    → remaining_zones zs line ≡ remaining_zones (with_zone zs t.value) t.rest
unfolding remaining_zones
zones_go_on zs line t e i = repeated_continues is_end pure zone with_zone zone_shortens zs line t e i

pub zones_fail : (zs : List Zone) (line : List TokenValue) (d : LineFault) → is_end line ≡ false → zone line ≡ Err d
    → remaining_zones zs line ≡ Err d
unfolding remaining_zones
zones_fail zs line d e i = repeated_fails is_end pure zone with_zone zs line d e i

-- ---- after the first brace

pub global_first : (line : List TokenValue) → is_next (codes "global") line ≡ true
    → zones_after_brace line ≡ global_after_brace line
unfolding zones_after_brace
global_first line e = rw e refl

pub zone_first : (line : List TokenValue) → is_next (codes "global") line ≡ false
    → zones_after_brace line ≡ first_zone_after_brace line
unfolding zones_after_brace
zone_first line e = rw e refl

pub zones_none : (line : List TokenValue) → is_end line ≡ true → zones line ≡ pure (no_content, []) line
unfolding zones
zones_none line e = rw e refl

pub zones_some : (line : List TokenValue) → is_end line ≡ false → zones line ≡ (opened >>= λ o. zones_after_brace) line
unfolding zones
zones_some line e = rw e refl
