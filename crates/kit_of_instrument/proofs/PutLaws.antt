-- The lines of the table as they are put.
use Rattle.std.proofs.Common.{◌≡◌, ◌<◌, ◌++◌, ℕ, zero, suc, Bool, true, false, not, List, [], ◌∷◌, length, codes, Option, Some}
use Rattle.std.proofs.Common.{None, refl, sym, ap, ◌∙◌, arith, IfSome, append_assoc}
use Rattle.std.specs.Prelude.{if◌then◌else◌, slice_get, unwrap_or}
use Rattle.std.specs.List.{flat_map}
use Rattle.std.specs.Option.{option_and_then, option_map, option_map_or}
use Rattle.std.proofs.lemmas.List.{append-nil}
use Rattle.std.proofs.lemmas.List.Concat.{flat_map-append}
use Rattle.base_outputs.specs.declared.output.Output.{Output}
use Rattle.base_outputs.specs.Output.{Puts}
use Rattle.base_outputs.proofs.OutputLaws.{puts_as, puts_nothing, puts_then}
use Rattle.bank_parts.specs.declared.owners.ZonePlace.TheVariants as there
use Rattle.bank_parts.specs.declared.parts.Parts.{Parts}
use Rattle.bank_parts.specs.declared.parts.Zone.{Zone}
use Rattle.bank_parts.specs.declared.parts.ZoneOwner.{ZoneOwner}
use Rattle.bank_parts.specs.Owners.{zone_at}
use Rattle.bank_changes.specs.declared.members.Owner.TheVariants as owner
use Rattle.script_tokens.specs.declared.printing.Piece.{Piece}
use Rattle.script_tokens.specs.declared.printing.Piece.TheVariants as piece
use Rattle.script_tokens.specs.Printing.{line_text, spaced}
use Rattle.script_tokens.proofs.PrintLaws.{line_spaced}
use Rattle.script_grammar.specs.Operands.{pieces_of}
use Rattle.script_grammar.specs.Zones.{global_of, global_operands, written_zone, zone_operands}
use Rattle.kit_tables.specs.declared.zone.KitZone.{KitZone}
use Rattle.kit_tables.specs.RowTexts.{ZoneLine, Comment, line_of, table_text, zone_pieces}
use Rattle.zone_select.specs.Remaining.{zones_in}
use Rattle.kit_of_instrument.specs.KitZones.{is_plain, is_whole}
use Rattle.kit_of_instrument.specs.KitLines.{global_line, head_lines, name_line, rest_lines, zone_line}

-- ---- one line

in_one : (w front back : List ℕ) → w ++ (front ++ (back ++ 10 ∷ [])) ≡ (w ++ (front ++ back)) ++ 10 ∷ []
in_one w front back =
    ap (λ (t : List ℕ). w ++ t) (sym (append_assoc front back (10 ∷ []))) ∙ sym (append_assoc w (front ++ back) (10 ∷ []))

comment_text : (front back : List Piece)
    → codes "#" ++ (flat_map spaced front ++ (flat_map spaced back ++ 10 ∷ [])) ≡ line_of (Comment (front ++ back))
comment_text front back =
    in_one (codes "#") (flat_map spaced front) (flat_map spaced back)
    ∙ ap (λ (t : List ℕ). (codes "#" ++ t) ++ 10 ∷ []) (sym (flat_map-append spaced front back))
    ∙ sym (line_spaced (codes "#") (front ++ back))

line_text_of : (file : List ℕ) (z : KitZone)
    → codes "\"samples/" ++ (file ++ (34 ∷ [] ++ (flat_map spaced (zone_pieces z) ++ 10 ∷ [])))
    ≡ line_of (ZoneLine (codes "samples/" ++ file) z)
line_text_of file z =
    let rest = flat_map spaced (zone_pieces z) in
    ap (λ (t : List ℕ). codes "\"samples/" ++ t)
    (sym (append_assoc file (34 ∷ []) (rest ++ 10 ∷ [])) ∙ sym (append_assoc (file ++ 34 ∷ []) rest (10 ∷ [])))
    ∙ sym (line_spaced (codes "\"samples/" ++ (file ++ 34 ∷ [])) (zone_pieces z))

module _ {W : Type 0} {c : W → Option (List ℕ)} {o p q r s t : Output W} where
  pub line_put : (file : List ℕ) (z : KitZone) → Puts c o p (codes "\"samples/") → Puts c p q file
      → Puts c q r (34 ∷ []) → Puts c r s (flat_map spaced (zone_pieces z)) → Puts c s t (10 ∷ [])
      → Puts c o t (line_of (ZoneLine (codes "samples/" ++ file) z))
  line_put file z h k l m n =
      puts_as _ _ (line_text_of file z) (puts_then _ _ h (puts_then _ _ k (puts_then _ _ l (puts_then _ _ m n))))

module _ {W : Type 0} {c : W → Option (List ℕ)} {o p q r s : Output W} where
  comment_put : (front back : List Piece) → Puts c o p (codes "#") → Puts c p q (flat_map spaced front)
      → Puts c q r (flat_map spaced back) → Puts c r s (10 ∷ [])
      → Puts c o s (table_text (Comment (front ++ back) ∷ []))
  comment_put front back h k l m =
      puts_as _ _ (comment_text front back ∙ sym (append-nil (line_of (Comment (front ++ back)))))
      (puts_then _ _ h (puts_then _ _ k (puts_then _ _ l m)))

  pub global_put : (b : Parts) (i : ℕ) (x : ZoneOwner (List ℕ)) → is_plain b i there.Global ≡ false
      → Puts c o p (codes "#") → Puts c p q (flat_map spaced (piece.Word (codes "zone") ∷ []))
      → Puts c q r (flat_map spaced (pieces_of (global_operands (global_of x.global)))) → Puts c r s (10 ∷ [])
      → Puts c o s (table_text (if is_plain b i there.Global then [] else global_line x.global ∷ []))
  global_put b i x e h k l m =
      rw e (comment_put (piece.Word (codes "zone") ∷ []) (pieces_of (global_operands (global_of x.global))) h k l m)

module _ {W : Type 0} {c : W → Option (List ℕ)} {o p q : Output W} where
  pub head_put : (b : Parts) (i : ℕ) (name : List ℕ)
      → option_map (λ (x : ZoneOwner (List ℕ)). x.head) (slice_get b.instruments i) ≡ Some name
      → Puts c o p (line_of (name_line i name))
      → IfSome (slice_get b.instruments i)
      (λ x. Puts c p q (table_text (if is_plain b i there.Global then [] else global_line x.global ∷ [])))
      → Puts c o q (table_text (head_lines b i))
  head_put b i name e h k = from (slice_get b.instruments i) e k
    where
      from : (x : Option (ZoneOwner (List ℕ))) → option_map (λ (x : ZoneOwner (List ℕ)). x.head) x ≡ Some name
          → IfSome x (λ x. Puts c p q (table_text (if is_plain b i there.Global then [] else global_line x.global ∷ [])))
          → Puts c o q
          (table_text
          (option_map_or
          (λ (x : ZoneOwner (List ℕ)).
          name_line i x.head ∷ (if is_plain b i there.Global then [] else global_line x.global ∷ [])) x []))
      from None f l = absurd cc
      from (Some x) f l =
          let same : x.head ≡ name = cc in
          puts_then _ _ (puts_as _ _ (ap (λ (n : List ℕ). line_of (name_line i n)) (sym same)) h) l

-- ---- a zone

found : {X : Type 0} (xs : List X) (i : ℕ) → i < length xs → (x : X) × (slice_get xs i ≡ Some x)
found [] i h = absurd (omega (arith, h))
found (x ∷ xs) zero h = (x, refl)
found (x ∷ xs) (suc i) h = found xs i (omega (arith, h))

zone_found : (b : Parts) (i l : ℕ) → l < zones_in b (owner.Inst i) → (z : Zone) × (zone_at b.instruments i l ≡ Some z)
zone_found b i l h = from (slice_get b.instruments i) h
  where
    from : (x : Option (ZoneOwner (List ℕ)))
        → l < unwrap_or (option_map (λ (x : ZoneOwner (List ℕ)). length x.zones) x) 0
        → (z : Zone) × (option_and_then (λ (x : ZoneOwner (List ℕ)). slice_get x.zones l) x ≡ Some z)
    from None k = absurd (omega (arith, k))
    from (Some x) k = found x.zones l k

module _ {W : Type 0} {c : W → Option (List ℕ)} {o p q r s : Output W} where
  pub rest_put : (b : Parts) (i l : ℕ) → is_whole b i l ≡ false → l < zones_in b (owner.Inst i)
      → Puts c o p (codes "#") → Puts c p q (flat_map spaced (piece.Word (codes "zone") ∷ piece.Number l ∷ []))
      → IfSome (zone_at b.instruments i l)
      (λ z. Puts c q r (flat_map spaced (pieces_of (zone_operands (written_zone z))))) → Puts c r s (10 ∷ [])
      → Puts c o s (table_text (rest_lines b i l))
  rest_put b i l e within h k m n =
      let (z, is) = zone_found b i l within in
      let put = rw is at m in
      rw (e, is)
      (comment_put (piece.Word (codes "zone") ∷ piece.Number l ∷ []) (pieces_of (zone_operands (written_zone z))) h k put n)
