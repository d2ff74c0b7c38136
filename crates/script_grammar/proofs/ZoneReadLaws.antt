-- Soundness of reading zones: zones that are read have operands on the line.
use Rattle.std.proofs.Common.{◌≡◌, ◌≤◌, ◌+◌, ◌*◌, ◌/◌, ◌%◌, ℕ, Bool, true, false, cond, List, [], ◌∷◌, ◌++◌, map}
use Rattle.std.proofs.Common.{codes, Some, None, Ok, refl, sym, ap, subst, append_assoc, ◌∙◌, arith}
use Rattle.std.specs.Int.{w16, cast_unsigned}
use Rattle.std.specs.List.{flat_map}
use Rattle.std.specs.Str.{bytes_eq}
use Rattle.std.proofs.lemmas.List.{append-nil}
use Rattle.std.proofs.lemmas.Slice.Eq.{bytes_eq-Decides}
use Rattle.generators.specs.Ranges.{is_range_operator}
use Rattle.modulators.specs.declared.modulator.Modulator.{Modulator}
use Rattle.bank_parts.specs.declared.parts.GlobalZone.{GlobalZone}
use Rattle.bank_parts.specs.declared.parts.Zone.{Zone}
use Rattle.script_tokens.specs.declared.cursor.TokenValue.{TokenValue}
use Rattle.script_tokens.specs.declared.cursor.TokenValue.TheVariants.{Word}
use Rattle.script_tokens.specs.declared.fault.LineFault.TheVariants as faults
use Rattle.script_tokens.specs.Parsers.{Parsed, ◌>>=◌, pure, or_fault, is_next, word, most_word, number, signed, range}
use Rattle.script_tokens.proofs.ReadLaws.{AllHoldBytes, both, word_is, signed_is, range_is}
use Rattle.script_grammar.specs.declared.items.Item.{Item}
use Rattle.script_grammar.specs.declared.items.Item.TheVariants as item
use Rattle.script_grammar.specs.Operands.{Operand, Fixed, Number, Signed, Amount, Range}
use Rattle.script_grammar.specs.Items.{amount_operand, generator_operands, modulator_operands, item_operands}
use Rattle.script_grammar.specs.Items.{items_operands, no_content, with_item, with_items, amount, generator}
use Rattle.script_grammar.specs.Items.{modulator_of, modulator, item_after_word, an_item, closed, items_on, items}
use Rattle.script_grammar.specs.Zones.{Written, WrittenZone, zone_operands, written_operands, zone_of, zone_in}
use Rattle.script_grammar.specs.Zones.{zones_in, opened, zone_after_brace, zone, is_end, with_zone, remaining_zones}
use Rattle.script_grammar.specs.Zones.{global_zones, global_after_brace, first_zone_after_brace, zones_after_brace, zones}
use Rattle.script_grammar.proofs.ReadLaws.{PrefixEncodes, one_operand, then, made, word_front, fixed_front, number_front}
use Rattle.script_grammar.proofs.ReadLaws.{signed_front}
use Rattle.script_grammar.proofs.RepeatedLaws.{repeated_reads}
use Rattle.script_grammar.proofs.ItemLaws.{global_first, zone_first, zones_none, zones_some}

-- ---- an amount

low_of : (low high : ℕ) → low ≤ 255 → (low + 256 * high) % 256 ≡ low
low_of low high h = omega (arith, h)

high_of : (low high : ℕ) → low ≤ 255 → (low + 256 * high) / 256 ≡ high
high_of low high h = omega (arith, h)

amount_front : (operator : ℕ) (line : List TokenValue) (t : Parsed ℕ) → AllHoldBytes line → amount operator line ≡ Ok t
    → PrefixEncodes line t.rest (amount_operand operator t.value ∷ [])
unfolding amount
amount_front operator line t h e = from (is_range_operator operator) e
  where
    from : (b : Bool)
        → cond b (range >>= λ ends. pure (ends.0 + 256 * ends.1)) (signed 32767 >>= λ z. pure (cast_unsigned w16 z))
        line
        ≡ Ok t
        → PrefixEncodes line t.rest (cond b (Range (t.value % 256) (t.value / 256)) (Amount t.value) ∷ [])
    from true k =
        let r = both (range line) (λ ends. pure (ends.0 + 256 * ends.1)) t k in
        let f = range_is line r.first r.is in
        let low = r.first.value.0 in
        let high = r.first.value.1 in
        let within = f.writes.writes_low.within in
        let same : record { value = low + 256 * high; rest = r.first.rest } ≡ t = made _ r.first.rest t r.second in
        subst (λ (u : Parsed ℕ). PrefixEncodes line u.rest (Range (u.value % 256) (u.value / 256) ∷ [])) same
        (subst (λ (n : ℕ). PrefixEncodes line r.first.rest (Range n ((low + 256 * high) / 256) ∷ []))
        (sym (low_of low high within))
        (subst (λ (n : ℕ). PrefixEncodes line r.first.rest (Range low n ∷ [])) (sym (high_of low high within))
        (one_operand line r.first.rest (Word f.digits) (Range low high) h f.parts (f.digits, refl, f.writes))))
    from false k =
        let z = both (signed 32767 line) (λ z. pure (cast_unsigned w16 z)) t k in
        let f = signed_is 32767 line z.first z.is in
        let same : record { value = cast_unsigned w16 z.first.value; rest = z.first.rest } ≡ t =
        made _ z.first.rest t z.second in
        subst (λ (u : Parsed ℕ). PrefixEncodes line u.rest (Amount u.value ∷ [])) same
        (one_operand line z.first.rest (Word f.digits) (Amount (cast_unsigned w16 z.first.value)) h f.parts
        (f.digits, z.first.value, refl, f.writes, refl))

-- ---- items

pub generator_front : (line : List TokenValue) (t : Parsed (ℕ × ℕ)) → AllHoldBytes line → generator line ≡ Ok t
    → PrefixEncodes line t.rest (generator_operands t.value.0 t.value.1)
unfolding generator
generator_front line t h e =
    let o = both (number most_word line) (λ operator. amount operator >>= λ a. pure (operator, a)) t e in
    let f = number_front most_word line o.first h o.is in
    let a = both (amount o.first.value o.first.rest) (λ a. pure (o.first.value, a)) t o.second in
    let g = amount_front o.first.value o.first.rest a.first f.holds a.is in
    let same : record { value = (o.first.value, a.first.value); rest = a.first.rest } ≡ t =
    made _ a.first.rest t a.second in
    subst (λ (u : Parsed (ℕ × ℕ)). PrefixEncodes line u.rest (generator_operands u.value.0 u.value.1)) same
    (then (Number most_word o.first.value ∷ []) (amount_operand o.first.value a.first.value ∷ []) f g)

pub modulator_front : (line : List TokenValue) (t : Parsed Modulator) → AllHoldBytes line → modulator line ≡ Ok t
    → PrefixEncodes line t.rest (modulator_operands t.value)
unfolding modulator
modulator_front line t h e =
    let s =
    both (number most_word line)
    (λ s.
    number most_word >>= λ d.
    signed 32767 >>= λ a.
    number most_word >>= λ x. number most_word >>= λ y. pure (modulator_of s d a x y))
    t e in
    let sf = number_front most_word line s.first h s.is in
    let d =
    both (number most_word s.first.rest)
    (λ d.
    signed 32767 >>= λ a.
    number most_word >>= λ x. number most_word >>= λ y. pure (modulator_of s.first.value d a x y))
    t s.second in
    let df = number_front most_word s.first.rest d.first sf.holds d.is in
    let a =
    both (signed 32767 d.first.rest)
    (λ a.
    number most_word >>= λ x.
    number most_word >>= λ y. pure (modulator_of s.first.value d.first.value a x y))
    t d.second in
    let af = signed_front 32767 d.first.rest a.first df.holds a.is in
    let x =
    both (number most_word a.first.rest)
    (λ x. number most_word >>= λ y. pure (modulator_of s.first.value d.first.value a.first.value x y)) t
    a.second in
    let xf = number_front most_word a.first.rest x.first af.holds x.is in
    let y =
    both (number most_word x.first.rest)
    (λ y. pure (modulator_of s.first.value d.first.value a.first.value x.first.value y)) t x.second in
    let yf = number_front most_word x.first.rest y.first xf.holds y.is in
    let ss : List Operand = Number most_word s.first.value ∷ [] in
    let ds : List Operand = Number most_word d.first.value ∷ [] in
    let ms : List Operand = Signed 32767 a.first.value ∷ [] in
    let xs : List Operand = Number most_word x.first.value ∷ [] in
    let ys : List Operand = Number most_word y.first.value ∷ [] in
    let same : record {
      value =
          modulator_of s.first.value d.first.value a.first.value x.first.value y.first.value;
      rest = y.first.rest;
    }
    ≡ t =
    made _ y.first.rest t y.second in
    subst (λ (u : Parsed Modulator). PrefixEncodes line u.rest (modulator_operands u.value)) same
    (then ss (ds ++ (ms ++ (xs ++ ys))) sf (then ds (ms ++ (xs ++ ys)) df (then ms (xs ++ ys) af (then xs ys xf yf))))

pub item_front : (line : List TokenValue) (t : Parsed Item) → AllHoldBytes line → an_item line ≡ Ok t
    → PrefixEncodes line t.rest (item_operands t.value)
unfolding an_item item_after_word
item_front line t h e =
    let w = both (word line) item_after_word t e in
    let g = word_front line w.first h w.is in
    from w.first.value w.first.rest g (bytes_eq w.first.value (codes "g")) (bytes_eq w.first.value (codes "m")) refl
    refl w.second
  where
    at : (v c : List ℕ) (rest : List TokenValue) → PrefixEncodes line rest (Fixed v ∷ []) → bytes_eq v c ≡ true
        → PrefixEncodes line rest (Fixed c ∷ [])
    at v c rest g k = subst (λ (x : List ℕ). PrefixEncodes line rest (Fixed x ∷ [])) ((bytes_eq-Decides v c).0 k) g

    set : (rest : List TokenValue) → PrefixEncodes line rest (Fixed (codes "g") ∷ [])
        → (generator >>= λ e. pure (item.Generator e.0 e.1)) rest ≡ Ok t → PrefixEncodes line t.rest (item_operands t.value)
    set rest g k =
        let x = both (generator rest) (λ e. pure (item.Generator e.0 e.1)) t k in
        let f = generator_front rest x.first g.holds x.is in
        let same : record { value = item.Generator x.first.value.0 x.first.value.1; rest = x.first.rest } ≡ t =
        made _ x.first.rest t x.second in
        subst (λ (u : Parsed Item). PrefixEncodes line u.rest (item_operands u.value)) same
        (then (Fixed (codes "g") ∷ []) (generator_operands x.first.value.0 x.first.value.1) g f)

    added : (rest : List TokenValue) → PrefixEncodes line rest (Fixed (codes "m") ∷ [])
        → (modulator >>= λ m. pure (item.Modulator m)) rest ≡ Ok t → PrefixEncodes line t.rest (item_operands t.value)
    added rest g k =
        let x = both (modulator rest) (λ m. pure (item.Modulator m)) t k in
        let f = modulator_front rest x.first g.holds x.is in
        let same : record { value = item.Modulator x.first.value; rest = x.first.rest } ≡ t =
        made _ x.first.rest t x.second in
        subst (λ (u : Parsed Item). PrefixEncodes line u.rest (item_operands u.value)) same
        (then (Fixed (codes "m") ∷ []) (modulator_operands x.first.value) g f)

    from : (v : List ℕ) (rest : List TokenValue) → PrefixEncodes line rest (Fixed v ∷ []) → (a b : Bool)
        → bytes_eq v (codes "g") ≡ a → bytes_eq v (codes "m") ≡ b
        → cond a (generator >>= λ e. pure (item.Generator e.0 e.1))
        (cond b (modulator >>= λ m. pure (item.Modulator m)) (or_fault faults.Syntax None)) rest
        ≡ Ok t
        → PrefixEncodes line t.rest (item_operands t.value)
    from v rest g true b p q k = set rest (at v (codes "g") rest g p) k
    from v rest g false true p q k = added rest (at v (codes "m") rest g q) k
    from v rest g false false p q k = cc

-- items on a line, and the content to which they are added
pub record ItemsRead (content : GlobalZone) (line : List TokenValue) (t : Parsed GlobalZone) : Type 0 where
  pub encoded : List Item
  pub prefix : PrefixEncodes line t.rest (items_operands encoded)
  pub has_value : with_items content encoded ≡ t.value

-- the next word
pub next_is : (c : List ℕ) (line : List TokenValue) (t : Parsed (List ℕ)) → word line ≡ Ok t → is_next c line ≡ true
    → t.value ≡ c
next_is c line t e k = (bytes_eq-Decides t.value c).0 (sym (ap (is_next c) (word_is line t e)) ∙ k)

closed_front : (content : GlobalZone) (line : List TokenValue) (t : Parsed GlobalZone) → AllHoldBytes line
    → is_next (codes "}") line ≡ true → closed content line ≡ Ok t → ItemsRead content line t
unfolding closed
closed_front content line t h k e =
    let w = both (word line) (λ w. pure content) t e in
    let g = word_front line w.first h w.is in
    let same : record { value = content; rest = w.first.rest } ≡ t = made content w.first.rest t w.second in
    subst (ItemsRead content line) same
    (record {
      encoded =
          [];
      prefix =
          subst (λ (v : List ℕ). PrefixEncodes line w.first.rest (Fixed v ∷ []))
          (next_is (codes "}") line w.first w.is k) g;
      has_value = refl;
    })

more_items : (content : GlobalZone) (line : List TokenValue) (x : Parsed Item) (t : Parsed GlobalZone)
    → PrefixEncodes line x.rest (item_operands x.value) → ItemsRead (with_item content x.value) x.rest t
    → ItemsRead content line t
more_items content line x t f s = record {
  encoded = x.value ∷ s.encoded;
  prefix =
      subst (PrefixEncodes line t.rest)
      (sym (append_assoc (item_operands x.value) (flat_map item_operands s.encoded) (Fixed (codes "}") ∷ [])))
      (then (item_operands x.value) (items_operands s.encoded) f s.prefix);
  has_value = s.has_value;
}

pub items_front : (line : List TokenValue) (t : Parsed GlobalZone) → AllHoldBytes line → items line ≡ Ok t
    → ItemsRead no_content line t
unfolding items items_on
items_front line t h e =
    repeated_reads (is_next (codes "}")) closed an_item with_item ItemsRead closed_front
    (λ content line x t h e on. let f = item_front line x h e in more_items content line x t f (on f.holds))
    no_content line t h e

-- ---- zones

-- the operands of a zone after its brace
record ZoneReadAfterBrace (line : List TokenValue) (t : Parsed Zone) : Type 0 where
  pub encoded : WrittenZone
  pub prefix : PrefixEncodes line t.rest (Number most_word encoded.target ∷ items_operands encoded.items)
  pub has_value : zone_in encoded ≡ t.value

-- the operands of a zone
pub record ZoneRead (line : List TokenValue) (t : Parsed Zone) : Type 0 where
  pub encoded : WrittenZone
  pub prefix : PrefixEncodes line t.rest (zone_operands encoded)
  pub has_value : zone_in encoded ≡ t.value

zone_after_brace_prefix : (line : List TokenValue) (t : Parsed Zone) → AllHoldBytes line → zone_after_brace line ≡ Ok t → ZoneReadAfterBrace line t
unfolding zone_after_brace
zone_after_brace_prefix line t h e =
    let n = both (number most_word line) (λ target. items >>= λ content. pure (zone_of target content)) t e in
    let f = number_front most_word line n.first h n.is in
    let c = both (items n.first.rest) (λ content. pure (zone_of n.first.value content)) t n.second in
    let s = items_front n.first.rest c.first f.holds c.is in
    let same : record { value = zone_of n.first.value c.first.value; rest = c.first.rest } ≡ t =
    made _ c.first.rest t c.second in
    subst (ZoneReadAfterBrace line) same (record {
      encoded = record { target = n.first.value; items = s.encoded };
      prefix = then (Number most_word n.first.value ∷ []) (items_operands s.encoded) f s.prefix;
      has_value = ap (zone_of n.first.value) s.has_value;
    })

pub zone_front : (line : List TokenValue) (t : Parsed Zone) → AllHoldBytes line → zone line ≡ Ok t → ZoneRead line t
unfolding zone
zone_front line t h e =
    let o = both (opened line) (λ o. zone_after_brace) t e in
    let f = fixed_front (codes "{") line o.first h o.is in
    let s = zone_after_brace_prefix o.first.rest t f.holds o.second in
    record {
      encoded =
          s.encoded;
      prefix =
          then (Fixed (codes "{") ∷ []) (Number most_word s.encoded.target ∷ items_operands s.encoded.items) f
          s.prefix;
      has_value =
          s.has_value;
    }

-- the remaining zones
record RemainingZonesRead (zs : List Zone) (line : List TokenValue) (t : Parsed (List Zone)) : Type 0 where
  pub encoded : List WrittenZone
  pub prefix : PrefixEncodes line t.rest (flat_map zone_operands encoded)
  pub has_value : zs ++ map zone_in encoded ≡ t.value

no_more : (zs : List Zone) (line : List TokenValue) (t : Parsed (List Zone)) → AllHoldBytes line → pure zs line ≡ Ok t
    → RemainingZonesRead zs line t
no_more zs line t h e =
    let same : record { value = zs; rest = line } ≡ t = made zs line t e in
    subst (RemainingZonesRead zs line) same
    (record { encoded = []; prefix = record { encoding = λ more k. k; holds = h }; has_value = append-nil zs })

more_zones : (zs : List Zone) (line : List TokenValue) (x : Parsed Zone) (t : Parsed (List Zone)) → ZoneRead line x
    → RemainingZonesRead (with_zone zs x.value) x.rest t → RemainingZonesRead zs line t
more_zones zs line x t z s = record {
  encoded = z.encoded ∷ s.encoded;
  prefix = then (zone_operands z.encoded) (flat_map zone_operands s.encoded) z.prefix s.prefix;
  has_value =
      ap (λ (y : Zone). zs ++ (y ∷ map zone_in s.encoded)) z.has_value
      ∙ sym (append_assoc zs (x.value ∷ []) (map zone_in s.encoded)) ∙ s.has_value;
}

left_front : (zs : List Zone) (line : List TokenValue) (t : Parsed (List Zone)) → AllHoldBytes line
    → remaining_zones zs line ≡ Ok t → RemainingZonesRead zs line t
unfolding remaining_zones
left_front zs line t h e =
    repeated_reads is_end pure zone with_zone RemainingZonesRead (λ zs line t h over e. no_more zs line t h e)
    (λ zs line x t h e on. let f = zone_front line x h e in more_zones zs line x t f (on f.prefix.holds)) zs line t h e

-- ---- all of them

-- the operands of zones on a line
pub record ZonesRead (line : List TokenValue) (t : Parsed (GlobalZone × List Zone)) : Type 0 where
  pub written : Written
  pub prefix : PrefixEncodes line t.rest (written_operands written)
  pub has_value : zones_in written ≡ t.value

-- the same after the first brace
record ZonesReadAfterBrace (line : List TokenValue) (t : Parsed (GlobalZone × List Zone)) : Type 0 where
  pub written : Written
  pub after : List Operand
  pub parts : written_operands written ≡ Fixed (codes "{") ∷ after
  pub prefix : PrefixEncodes line t.rest after
  pub has_value : zones_in written ≡ t.value

global_front : (line : List TokenValue) (t : Parsed (GlobalZone × List Zone)) → AllHoldBytes line
    → is_next (codes "global") line ≡ true → global_after_brace line ≡ Ok t → ZonesReadAfterBrace line t
unfolding global_after_brace global_zones
global_front line t h k e =
    let w = both (word line) (λ w. items >>= λ g. remaining_zones [] >>= λ zs. pure (g, zs)) t e in
    let wf = word_front line w.first h w.is in
    let g = both (items w.first.rest) (λ g. remaining_zones [] >>= λ zs. pure (g, zs)) t w.second in
    let gs = items_front w.first.rest g.first wf.holds g.is in
    let z = both (remaining_zones [] g.first.rest) (λ zs. pure (g.first.value, zs)) t g.second in
    let zs = left_front [] g.first.rest z.first gs.prefix.holds z.is in
    let same : record { value = (g.first.value, z.first.value); rest = z.first.rest } ≡ t =
    made _ z.first.rest t z.second in
    let word : PrefixEncodes line w.first.rest (Fixed (codes "global") ∷ []) =
    subst (λ (v : List ℕ). PrefixEncodes line w.first.rest (Fixed v ∷ []))
    (next_is (codes "global") line w.first w.is k) wf in
    subst (ZonesReadAfterBrace line) same (record {
      written = record { global = Some gs.encoded; zones = zs.encoded };
      after = Fixed (codes "global") ∷ items_operands gs.encoded ++ flat_map zone_operands zs.encoded;
      parts = refl;
      prefix =
          then (Fixed (codes "global") ∷ []) (items_operands gs.encoded ++ flat_map zone_operands zs.encoded) word
          (then (items_operands gs.encoded) (flat_map zone_operands zs.encoded) gs.prefix zs.prefix);
      has_value = cc (gs.has_value, zs.has_value);
    })

first_front : (line : List TokenValue) (t : Parsed (GlobalZone × List Zone)) → AllHoldBytes line → first_zone_after_brace line ≡ Ok t
    → ZonesReadAfterBrace line t
unfolding first_zone_after_brace
first_front line t h e =
    let x = both (zone_after_brace line) (λ z. remaining_zones (z ∷ []) >>= λ zs. pure (no_content, zs)) t e in
    let xs = zone_after_brace_prefix line x.first h x.is in
    let z = both (remaining_zones (x.first.value ∷ []) x.first.rest) (λ zs. pure (no_content, zs)) t x.second in
    let zs = left_front (x.first.value ∷ []) x.first.rest z.first xs.prefix.holds z.is in
    let same : record { value = (no_content, z.first.value); rest = z.first.rest } ≡ t =
    made _ z.first.rest t z.second in
    subst (ZonesReadAfterBrace line) same (record {
      written = record { global = None; zones = xs.encoded ∷ zs.encoded };
      after = (Number most_word xs.encoded.target ∷ items_operands xs.encoded.items) ++ flat_map zone_operands zs.encoded;
      parts = refl;
      prefix =
          then (Number most_word xs.encoded.target ∷ items_operands xs.encoded.items) (flat_map zone_operands zs.encoded)
          xs.prefix zs.prefix;
      has_value =
          ap (λ (ys : List Zone). (no_content, ys))
          (ap (λ (y : Zone). y ∷ map zone_in zs.encoded) xs.has_value ∙ zs.has_value);
    })

zones_after_brace_prefix : (line : List TokenValue) (t : Parsed (GlobalZone × List Zone)) → AllHoldBytes line → zones_after_brace line ≡ Ok t
    → ZonesReadAfterBrace line t
zones_after_brace_prefix line t h e = from (is_next (codes "global") line) refl
  where
    from : (b : Bool) → is_next (codes "global") line ≡ b → ZonesReadAfterBrace line t
    from true k = global_front line t h k (sym (global_first line k) ∙ e)
    from false k = first_front line t h (sym (zone_first line k) ∙ e)

some_front : (line : List TokenValue) (t : Parsed (GlobalZone × List Zone)) → AllHoldBytes line
    → (opened >>= λ o. zones_after_brace) line ≡ Ok t → ZonesRead line t
some_front line t h e =
    let o = both (opened line) (λ o. zones_after_brace) t e in
    let f = fixed_front (codes "{") line o.first h o.is in
    let s = zones_after_brace_prefix o.first.rest t f.holds o.second in
    record {
      written =
          s.written;
      prefix =
          subst (PrefixEncodes line t.rest) (sym s.parts) (then (Fixed (codes "{") ∷ []) s.after f s.prefix);
      has_value =
          s.has_value;
    }

none_front : (line : List TokenValue) (t : Parsed (GlobalZone × List Zone)) → AllHoldBytes line
    → pure (no_content, []) line ≡ Ok t → ZonesRead line t
none_front line t h e =
    let same : record { value = (no_content, []); rest = line } ≡ t = made (no_content, []) line t e in
    subst (ZonesRead line) same
    (record {
      written =
          record { global = None; zones = [] };
      prefix =
          record { encoding = λ more k. k; holds = h };
      has_value = refl;
    })

pub zones_front : (line : List TokenValue) (t : Parsed (GlobalZone × List Zone)) → AllHoldBytes line → zones line ≡ Ok t
    → ZonesRead line t
zones_front line t h e = from (is_end line) refl
  where
    from : (b : Bool) → is_end line ≡ b → ZonesRead line t
    from true k = none_front line t h (sym (zones_none line k) ∙ e)
    from false k = some_front line t h (sym (zones_some line k) ∙ e)
