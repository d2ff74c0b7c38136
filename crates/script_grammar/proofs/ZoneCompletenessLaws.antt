-- Completeness of reading zones: the operands of zones on a line are read as those zones.
use Rattle.std.proofs.Common.{◌≡◌, ◌+◌, ◌*◌, ◌/◌, ◌%◌, ℕ, Bool, true, false, cond, List, [], ◌∷◌, ◌++◌, map, codes}
use Rattle.std.proofs.Common.{Option, Some, None, Ok, refl, sym, ap, subst, append_assoc, ◌∙◌, arith}
use Rattle.std.specs.Int.{w16, cast_unsigned}
use Rattle.std.specs.List.{flat_map, list_all}
use Rattle.std.proofs.lemmas.List.{append-nil}
use Rattle.std.proofs.lemmas.Slice.Eq.{bytes_eq-Decides}
use Rattle.std.specs.Str.{bytes_eq}
use Rattle.generators.specs.Ranges.{is_range_operator}
use Rattle.modulators.specs.declared.modulator.Modulator.{Modulator}
use Rattle.bank_parts.specs.declared.parts.GlobalZone.{GlobalZone}
use Rattle.bank_parts.specs.declared.parts.Zone.{Zone}
use Rattle.script_tokens.specs.declared.cursor.TokenValue.{TokenValue}
use Rattle.script_tokens.specs.Parsers.{Parser, and_then, ◌>>=◌, pure, is_next, is_digit, most_word, signed, range}
use Rattle.script_tokens.specs.TextForm.{Writes}
use Rattle.script_tokens.proofs.CompletenessLaws as tokens
use Rattle.script_grammar.specs.declared.items.Item.{Item}
use Rattle.script_grammar.specs.declared.items.Item.TheVariants as item
use Rattle.script_grammar.specs.Operands.{Operand, Fixed, Number, Signed, Amount, Range, AllEncode}
use Rattle.script_grammar.specs.Items.{amount_operand, generator_operands, modulator_operands, item_operands}
use Rattle.script_grammar.specs.Items.{items_operands, no_content, with_item, with_items, content_of, amount}
use Rattle.script_grammar.specs.Items.{generator, modulator, item_after_word, an_item, closed, items_on, items}
use Rattle.script_grammar.specs.Zones.{Written, WrittenZone, zone_operands, global_operands, written_operands}
use Rattle.script_grammar.specs.Zones.{zone_in, global_in, zones_in, opened, zone_after_brace, zone, is_end, with_zone}
use Rattle.script_grammar.specs.Zones.{remaining_zones, global_zones, global_after_brace, first_zone_after_brace, zones_after_brace, zones}
use Rattle.script_grammar.proofs.CompletenessLaws.{Gives, then, gives_pure, gives_word, gives_fixed, gives_number}
use Rattle.script_grammar.proofs.CompletenessLaws.{gives_signed}
use Rattle.script_grammar.proofs.ItemLaws.{items_end, items_go_on, zones_end, zones_go_on, global_first, zone_first}
use Rattle.script_grammar.proofs.ItemLaws.{zones_none, zones_some}

-- ---- an amount

gives_range : (low high : ℕ) (line : List TokenValue) (more : List Operand) → AllEncode line (Range low high ∷ more)
    → Gives range (low, high) line more
gives_range low high [] more h = absurd h
gives_range low high (s ∷ line) more h =
    record {
      rest =
          line;
      is =
          ap (λ (t : TokenValue). range (t ∷ line)) h.0.1 ∙ tokens.range_read low high h.0.0 line h.0.2;
      encoding = h.1;
    }

-- a signed number that this word encodes
gives_word_of : (a : ℕ) (line : List TokenValue) (more : List Operand) → AllEncode line (Amount a ∷ more)
    → Gives (signed 32767 >>= λ z. pure (cast_unsigned w16 z)) a line more
gives_word_of a [] more h = absurd h
gives_word_of a (s ∷ line) more h =
    let z = h.0.1 in
    let read : signed 32767 (s ∷ line) ≡ Ok (record { value = z; rest = line }) =
    ap (λ (t : TokenValue). signed 32767 (t ∷ line)) h.0.2 ∙ tokens.signed_read 32767 z h.0.0 line h.0.3 in
    record {
      rest = line;
      is =
          ap (λ r. and_then r (λ z. pure (cast_unsigned w16 z))) read
          ∙ ap (λ (n : ℕ). Ok (record { value = n; rest = line })) (sym h.0.4);
      encoding = h.1;
    }

both_ends : (a : ℕ) → a % 256 + 256 * (a / 256) ≡ a
both_ends a = omega arith

gives_amount : (operator a : ℕ) (line : List TokenValue) (more : List Operand)
    → AllEncode line (amount_operand operator a ∷ more) → Gives (amount operator) a line more
unfolding amount
gives_amount operator a line more h = from (is_range_operator operator) h
  where
    from : (b : Bool) → AllEncode line (cond b (Range (a % 256) (a / 256)) (Amount a) ∷ more)
        → Gives
        (cond b (range >>= λ ends. pure (ends.0 + 256 * ends.1))
        (signed 32767 >>= λ z. pure (cast_unsigned w16 z)))
        a line more
    from true k =
        then _ (gives_range (a % 256) (a / 256) line more k)
        (λ rest k.
        subst (λ (n : ℕ). Gives (pure (a % 256 + 256 * (a / 256))) n rest more) (both_ends a)
        (gives_pure (a % 256 + 256 * (a / 256)) rest more k))
    from false k = gives_word_of a line more k

-- ---- items

pub gives_generator : (operator a : ℕ) (line : List TokenValue) (more : List Operand)
    → AllEncode line (generator_operands operator a ++ more) → Gives generator (operator, a) line more
unfolding generator
gives_generator operator a line more h =
    then _ (gives_number most_word operator line (amount_operand operator a ∷ more) h) (λ rest k.
    then _ (gives_amount operator a rest more k) (λ rest k. gives_pure (operator, a) rest more k))

pub gives_modulator : (m : Modulator) (line : List TokenValue) (more : List Operand)
    → AllEncode line (modulator_operands m ++ more) → Gives modulator m line more
unfolding modulator
gives_modulator m line more h =
    then _ (gives_number most_word m.source line (Number most_word m.dest ∷ Signed 32767 m.amount
    ∷ Number most_word m.amount_source ∷ Number most_word m.transform ∷ more) h) (λ rest k.
    then _ (gives_number most_word m.dest rest
    (Signed 32767 m.amount ∷ Number most_word m.amount_source ∷ Number most_word m.transform ∷ more) k) (λ rest
    k.
    then _
    (gives_signed 32767 m.amount rest (Number most_word m.amount_source ∷ Number most_word m.transform ∷ more) k)
    (λ rest k.
    then _ (gives_number most_word m.amount_source rest (Number most_word m.transform ∷ more) k) (λ rest k.
    then _ (gives_number most_word m.transform rest more k) (λ rest k. gives_pure m rest more k)))))

pub gives_item : (i : Item) (line : List TokenValue) (more : List Operand) → AllEncode line (item_operands i ++ more)
    → Gives an_item i line more
unfolding an_item item_after_word
gives_item (item.Generator operator a) line more h =
    then _ (gives_word (codes "g") line (generator_operands operator a ++ more) h) (λ rest k.
    then _ (gives_generator operator a rest more k) (λ rest k. gives_pure (item.Generator operator a) rest more k))
gives_item (item.Modulator m) line more h =
    then _ (gives_word (codes "m") line (modulator_operands m ++ more) h) (λ rest k.
    then _ (gives_modulator m rest more k) (λ rest k. gives_pure (item.Modulator m) rest more k))

-- the first token of a line that begins with a word
pub next_word : (w v : List ℕ) (line : List TokenValue) (more : List Operand) → AllEncode line (Fixed w ∷ more)
    → is_next v line ≡ bytes_eq w v
next_word w v [] more h = absurd h
next_word w v (s ∷ line) more h = ap (λ (t : TokenValue). is_next v (t ∷ line)) h.0

not_closed : (i : Item) (line : List TokenValue) (more : List Operand) → AllEncode line (item_operands i ++ more)
    → is_next (codes "}") line ≡ false
not_closed (item.Generator operator a) line more h =
    next_word (codes "g") (codes "}") line (generator_operands operator a ++ more) h
not_closed (item.Modulator m) line more h = next_word (codes "m") (codes "}") line (modulator_operands m ++ more) h

abbrev closing : List Operand → List Operand
closing more = Fixed (codes "}") ∷ more

gives_items_on : (is : List Item) (content : GlobalZone) (line : List TokenValue) (more : List Operand)
    → AllEncode line (flat_map item_operands is ++ closing more)
    → Gives (items_on content) (with_items content is) line more
unfolding closed
gives_items_on [] content line more h =
    let g = gives_word (codes "}") line more h in
    record
    { rest = g.rest; is = items_end content line (next_word (codes "}") (codes "}") line more h) ∙ ap (λ r. and_then r (λ w. pure content)) g.is; encoding = g.encoding }
gives_items_on (i ∷ is) content line more h =
    let encoding : AllEncode line (item_operands i ++ (flat_map item_operands is ++ closing more)) =
    subst (AllEncode line) (append_assoc (item_operands i) (flat_map item_operands is) (closing more)) h in
    let g = gives_item i line (flat_map item_operands is ++ closing more) encoding in
    let k = gives_items_on is (with_item content i) g.rest more g.encoding in
    record {
      rest =
          k.rest;
      is =
          items_go_on content line _ (not_closed i line (flat_map item_operands is ++ closing more) encoding) g.is
          ∙ k.is;
      encoding =
          k.encoding;
    }

pub gives_items : (is : List Item) (line : List TokenValue) (more : List Operand) → AllEncode line (items_operands is ++ more)
    → Gives items (content_of is) line more
unfolding items
gives_items is line more h =
    gives_items_on is no_content line more
    (subst (AllEncode line) (append_assoc (flat_map item_operands is) (Fixed (codes "}") ∷ []) more) h)

-- ---- zones

abbrev operands_after_brace : WrittenZone → List Operand
operands_after_brace z = Number most_word z.target ∷ items_operands z.items

pub gives_zone_after_brace : (z : WrittenZone) (line : List TokenValue) (more : List Operand)
    → AllEncode line (operands_after_brace z ++ more) → Gives zone_after_brace (zone_in z) line more
unfolding zone_after_brace
gives_zone_after_brace z line more h =
    then _ (gives_number most_word z.target line (items_operands z.items ++ more) h) (λ rest k.
    then _ (gives_items z.items rest more k) (λ rest k. gives_pure (zone_in z) rest more k))

pub gives_zone : (z : WrittenZone) (line : List TokenValue) (more : List Operand) → AllEncode line (zone_operands z ++ more)
    → Gives zone (zone_in z) line more
unfolding zone
gives_zone z line more h =
    then _ (gives_fixed (codes "{") line (operands_after_brace z ++ more) h) (λ rest k. gives_zone_after_brace z rest more k)

not_end : (line : List TokenValue) (more : List Operand) → AllEncode line (Fixed (codes "{") ∷ more) → is_end line ≡ false
not_end [] more h = absurd h
not_end (s ∷ line) more h = next_word (codes "{") (codes "}") (s ∷ line) more h

-- the next token ends the zones before it
abbrev pub EndsZones : List Operand → Type 0
EndsZones more = (line : List TokenValue) → AllEncode line more → is_end line ≡ true

pub nothing_ends : EndsZones []
nothing_ends [] h = refl
nothing_ends (s ∷ line) h = absurd h

pub brace_ends : (more : List Operand) → EndsZones (closing more)
brace_ends more [] h = absurd h
brace_ends more (s ∷ line) h = next_word (codes "}") (codes "}") (s ∷ line) more h

gives_zones_left : (ws : List WrittenZone) (zs : List Zone) (line : List TokenValue) (more : List Operand) → EndsZones more
    → AllEncode line (flat_map zone_operands ws ++ more) → Gives (remaining_zones zs) (zs ++ map zone_in ws) line more
gives_zones_left [] zs line more end h =
    record {
      rest =
          line;
      is =
          zones_end zs line (end line h)
          ∙ ap (λ (all : List Zone). Ok (record { value = all; rest = line })) (sym (append-nil zs));
      encoding =
          h;
    }
gives_zones_left (w ∷ ws) zs line more end h =
    let encoding : AllEncode line (zone_operands w ++ (flat_map zone_operands ws ++ more)) =
    subst (AllEncode line) (append_assoc (zone_operands w) (flat_map zone_operands ws) more) h in
    let g = gives_zone w line (flat_map zone_operands ws ++ more) encoding in
    let k = gives_zones_left ws (with_zone zs (zone_in w)) g.rest more end g.encoding in
    record {
      rest = k.rest;
      is =
          zones_go_on zs line _ (not_end line (operands_after_brace w ++ (flat_map zone_operands ws ++ more)) encoding) g.is
          ∙ k.is
          ∙ ap (λ (all : List Zone). Ok (record { value = all; rest = k.rest }))
          (append_assoc zs (zone_in w ∷ []) (map zone_in ws));
      encoding = k.encoding;
    }

-- a number is no word of letters
pub not_global : (limit n : ℕ) (line : List TokenValue) (more : List Operand) → AllEncode line (Number limit n ∷ more)
    → is_next (codes "global") line ≡ false
not_global limit n [] more h = absurd h
not_global limit n (s ∷ line) more h = ap (λ (t : TokenValue). is_next (codes "global") (t ∷ line)) h.0.1 ∙ from h.0.0 h.0.2
  where
    from : (w : List ℕ) → Writes limit w n → bytes_eq w (codes "global") ≡ false
    from w v = other (bytes_eq w (codes "global")) refl
      where
        other : (b : Bool) → bytes_eq w (codes "global") ≡ b → b ≡ false
        other true e =
            let d =
            subst (λ (x : List ℕ). list_all is_digit x ≡ true) ((bytes_eq-Decides w (codes "global")).0 e)
            v.digits in
            cc
        other false e = refl

gives_global_zones : (is : List Item) (ws : List WrittenZone) (line : List TokenValue) (more : List Operand)
    → EndsZones more → AllEncode line (items_operands is ++ (flat_map zone_operands ws ++ more))
    → Gives global_zones (content_of is, map zone_in ws) line more
unfolding global_zones
gives_global_zones is ws line more end h =
    then _ (gives_items is line (flat_map zone_operands ws ++ more) h) (λ rest k.
    then _ (gives_zones_left ws [] rest more end k) (λ rest k. gives_pure (content_of is, map zone_in ws) rest more k))

gives_global_after_brace : (is : List Item) (ws : List WrittenZone) (line : List TokenValue) (more : List Operand)
    → EndsZones more
    → AllEncode line (Fixed (codes "global") ∷ items_operands is ++ (flat_map zone_operands ws ++ more))
    → Gives global_after_brace (content_of is, map zone_in ws) line more
unfolding global_after_brace
gives_global_after_brace is ws line more end h =
    then _ (gives_word (codes "global") line (items_operands is ++ (flat_map zone_operands ws ++ more)) h)
    (λ rest k. gives_global_zones is ws rest more end k)

gives_first_after_brace : (w : WrittenZone) (ws : List WrittenZone) (line : List TokenValue) (more : List Operand)
    → EndsZones more → AllEncode line (operands_after_brace w ++ (flat_map zone_operands ws ++ more))
    → Gives first_zone_after_brace (no_content, map zone_in (w ∷ ws)) line more
unfolding first_zone_after_brace
gives_first_after_brace w ws line more end h =
    then _ (gives_zone_after_brace w line (flat_map zone_operands ws ++ more) h) (λ rest k.
    then _ (gives_zones_left ws (zone_in w ∷ []) rest more end k)
    (λ rest k. gives_pure (no_content, map zone_in (w ∷ ws)) rest more k))

-- a parser with the result of another
pub as_other : {X : Type 0} (p q : Parser X) (x : X) (line : List TokenValue) (more : List Operand) → q line ≡ p line
    → Gives p x line more → Gives q x line more
as_other p q x line more e g = record { rest = g.rest; is = e ∙ g.is; encoding = g.encoding }

-- `GLOBAL? ZONE*`, where the tokens after them end them
module _ (more : List Operand) (end : EndsZones more) where
  gives_parts : (g : Option (List Item)) (ws : List WrittenZone) (line : List TokenValue)
      → AllEncode line (global_operands g ++ (flat_map zone_operands ws ++ more))
      → Gives zones (global_in g, map zone_in ws) line more
  gives_parts None [] line h =
      as_other (pure (no_content, [])) zones (no_content, []) line more (zones_none line (end line h))
      (gives_pure (no_content, []) line more h)
  gives_parts None (w ∷ ws) line h =
      let encoding : AllEncode line (zone_operands w ++ (flat_map zone_operands ws ++ more)) =
      subst (AllEncode line) (append_assoc (zone_operands w) (flat_map zone_operands ws) more) h in
      as_other (opened >>= λ o. zones_after_brace) zones (no_content, map zone_in (w ∷ ws)) line more
      (zones_some line (not_end line (operands_after_brace w ++ (flat_map zone_operands ws ++ more)) encoding))
      (then _ (gives_fixed (codes "{") line (operands_after_brace w ++ (flat_map zone_operands ws ++ more)) encoding) (λ rest k.
      as_other first_zone_after_brace zones_after_brace (no_content, map zone_in (w ∷ ws)) rest more (zone_first rest (not_global most_word w.target rest (items_operands w.items ++ (flat_map zone_operands ws ++ more)) k)) (gives_first_after_brace w ws rest more end k)))
  gives_parts (Some is) ws line h =
      as_other (opened >>= λ o. zones_after_brace) zones (content_of is, map zone_in ws) line more
      (zones_some line
      (not_end line (Fixed (codes "global") ∷ items_operands is ++ (flat_map zone_operands ws ++ more)) h))
      (then _ (gives_fixed (codes "{") line
      (Fixed (codes "global") ∷ items_operands is ++ (flat_map zone_operands ws ++ more)) h) (λ rest k.
      as_other global_after_brace zones_after_brace (content_of is, map zone_in ws) rest more (global_first rest (next_word
      (codes "global") (codes "global") rest (items_operands is ++ (flat_map zone_operands ws ++ more))
      k)) (gives_global_after_brace is ws rest more end k)))

  pub gives_zones : (w : Written) (line : List TokenValue) → AllEncode line (written_operands w ++ more)
      → Gives zones (zones_in w) line more
  gives_zones w line h =
      gives_parts w.global w.zones line
      (subst (AllEncode line) (append_assoc (global_operands w.global) (flat_map zone_operands w.zones) more) h)
