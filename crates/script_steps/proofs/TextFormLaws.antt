-- The laws of a part that has several text forms, such as zones, and that the tokens after it end.
use Rattle.std.proofs.Common.{◌≡◌, ◌<◌, ◌^◌, ◌∙◌, ap, append_assoc, subst, refl, ℕ, List, ◌∷◌, ◌++◌}
use Rattle.std.proofs.lemmas.List.{append-nil}
use Rattle.std.specs.List.{AllByRecursion}
use Rattle.bank_parts.specs.declared.parts.GlobalZone.{GlobalZone}
use Rattle.bank_parts.specs.declared.parts.Zone.{Zone}
use Rattle.bank_parts.specs.declared.parts.ZoneOwner.{ZoneOwner}
use Rattle.bank_parts.specs.Fits.{FitsGlobal, FitsZone, FitsOwner}
use Rattle.edit_forms.specs.Fits.{FitsOwnerNumber}
use Rattle.script_tokens.specs.declared.cursor.TokenValue.{TokenValue}
use Rattle.script_tokens.specs.Parsers.{Parser, ◌>>=◌, pure, and_then}
use Rattle.script_grammar.specs.Operands.{Operand, AllEncode}
use Rattle.script_grammar.specs.Zones.{Written, WrittenZone, zone_operands, written_operands, written_zone}
use Rattle.script_grammar.specs.Zones.{written_of, zone_in, zones_in, zone, zones}
use Rattle.script_grammar.proofs.CompletenessLaws as complete
use Rattle.script_grammar.proofs.CompletenessLaws.{Gives, gives_pure}
use Rattle.script_grammar.proofs.ZoneCompletenessLaws.{EndsZones, gives_zone, gives_zones}
use Rattle.script_grammar.proofs.ZoneReadLaws.{zone_front, zones_front}
use Rattle.script_grammar.proofs.RepeatedLaws.{Keeps, pure_keeps, then_keeps}
use Rattle.script_grammar.proofs.KeepLaws.{zone_keeps, zones_keep}
use Rattle.script_grammar.proofs.FitLaws as fit
use Rattle.script_grammar.proofs.FitLaws.{AllRanged}
use Rattle.script_grammar.proofs.ZoneFitLaws as zone_fit
use Rattle.script_grammar.proofs.ZoneFitLaws.{zone_fits, zones_ranged, zone_reads_back, zones_read_back, zones_fit}
use Rattle.script_grammar.proofs.OperandLaws.{AllFit, both_fit}
use Rattle.script_steps.specs.Members.{place, printed_owner, EncodesOwner, owner_of, zones_of, owner}
use Rattle.script_steps.specs.Owners.{of_zone, owner_zone}
use Rattle.script_steps.specs.Zones.{printed_zone, EncodesZone}
use Rattle.script_steps.proofs.PrefixLaws.{IsEncoded, following, encoded_after, none, encoded_as}
use Rattle.script_steps.proofs.Lawful.{IsLawful, pair_part, of_two, regrouped, same_after}
use Rattle.script_steps.proofs.OwnerLaws.{owner_zones}

-- the laws of such a part: these operands encode its values, and those are printed
pub record HasLawfulForms {X : Type 0} (part : Parser X) (Encodes : X → List Operand → Type 0) (printed : X → List Operand)
    (Fits : X → Type 0) : Type 0 where
  pub gives : (x : X) (os more : List Operand) → EndsZones more → Encodes x os → (line : List TokenValue)
      → AllEncode line (os ++ more) → Gives part x line more
  pub encoded : IsEncoded X part Encodes
  pub keeps : Keeps part
  pub fits : (x : X) (os : List Operand) → Encodes x os → AllRanged os → Fits x
  pub fit : (x : X) → Fits x → AllFit (printed x)
  pub printed_encodes : (x : X) → Encodes x (printed x)

-- a part with one text form
pub one_form : {X : Type 0} {p : Parser X} {o : X → List Operand} {F : X → Type 0} → IsLawful p o F
    → HasLawfulForms p (λ x os. os ≡ o x) o F
one_form {X} {p} {o} l = record {
  gives = λ x os more end e line h. l.gives x line more (subst (λ (os : List Operand). AllEncode line (os ++ more)) e h);
  encoded = λ line t g e. record { operands = o t.value; encoding = refl; prefix = l.prefix line t g e };
  keeps = l.keeps;
  fits = λ x os e h. l.fits x (subst AllRanged e h);
  fit = l.fit;
  printed_encodes = λ x. refl;
}

-- after operands with one text form
pub record EncodesAfter {Y : Type 0} (Encodes : Y → List Operand → Type 0) (before : List Operand) (y : Y)
    (os : List Operand) : Type 0 where
  pub following : List Operand
  pub parts : os ≡ before ++ following
  pub encoding : Encodes y following

module _ {X Y : Type 0} {p : Parser X} {q : Parser Y} {o : X → List Operand} {F : X → Type 0}
    {S : Y → List Operand → Type 0} {r : Y → List Operand} {G : Y → Type 0} where
  forms_after : IsLawful p o F → HasLawfulForms q S r G
      → HasLawfulForms (pair_part p q) (λ a. EncodesAfter S (o a.0) a.1) (λ a. o a.0 ++ r a.1) (λ a. F a.0 × G a.1)
  forms_after l m = record {
    gives = λ a os more end s line h.
        complete.then _ (l.gives a.0 line (s.following ++ more) (subst (AllEncode line) (append_assoc (o a.0) s.following more) (subst (λ (os : List Operand). AllEncode line (os ++ more)) s.parts h))) (λ rest k.
        complete.then _ (m.gives a.1 s.following more end s.encoding rest k) (λ rest k. gives_pure (a.0, a.1) rest more k));
    encoded =
        following p _ (λ a. EncodesAfter S (o a.0) a.1) o l.prefix (λ x.
        encoded_after q _ (λ (a : X × Y) os. EncodesAfter S (o a.0) a.1 (o x ++ os)) {S = S} m.encoded (λ y os s.
        none (x, y) (λ (a : X × Y) more. EncodesAfter S (o a.0) a.1 (o x ++ (os ++ more)))
        (record { following = os; parts = ap (λ (os : List Operand). o x ++ os) (append-nil os); encoding = s })));
    keeps = then_keeps p _ l.keeps (λ x. then_keeps q _ m.keeps (λ y. pure_keeps (x, y)));
    fits =
        λ a os s h. let k =
        fit.following (o a.0) s.following (subst AllRanged s.parts h) in
        (l.fits a.0 k.0, m.fits a.1 s.following s.encoding k.1);
    fit = λ a h. both_fit (o a.0) (r a.1) (l.fit a.0 h.0) (m.fit a.1 h.1);
    printed_encodes = λ a. record { following = r a.1; parts = refl; encoding = m.printed_encodes a.1 };
  }

-- the same for an equivalent relation
module _ {X : Type 0} {p : Parser X} {S T : X → List Operand → Type 0} {o : X → List Operand} {F G : X → Type 0} where
  forms_as : HasLawfulForms p S o F → ((x : X) (os : List Operand) → S x os → T x os)
      → ((x : X) (os : List Operand) → T x os → S x os) → ((x : X) → F x → G x) → ((x : X) → G x → F x)
      → HasLawfulForms p T o G
  forms_as l to back up down = record {
    gives = λ x os more end s. l.gives x os more end (back x os s);
    encoded = encoded_as T l.encoded to;
    keeps = l.keeps;
    fits = λ x os s h. up x (l.fits x os (back x os s) h);
    fit = λ x h. l.fit x (down x h);
    printed_encodes = λ x. to x (o x) (l.printed_encodes x);
  }

-- ---- zones

-- a zone
a_zone : HasLawfulForms zone (λ z os. (w : WrittenZone) × (os ≡ zone_operands w) × (zone_in w ≡ z))
    (λ z. zone_operands (written_zone z)) FitsZone
a_zone = record {
  gives =
      λ z os more end s line h.
      subst (λ (z : Zone). Gives zone z line more) s.2
      (gives_zone s.0 line more (subst (λ (os : List Operand). AllEncode line (os ++ more)) s.1 h));
  encoded =
      λ line t h e. let s =
      zone_front line t h e in record
      { operands = zone_operands s.encoded; encoding = (s.encoded, refl, s.has_value); prefix = s.prefix };
  keeps = zone_keeps;
  fits = λ z os s h. subst FitsZone s.2 (zone_fits s.0 (subst AllRanged s.1 h));
  fit = zone_fit.zone_operands_fit;
  printed_encodes = λ z. (written_zone z, refl, zone_reads_back z);
}

-- `GLOBAL? ZONE*`
some_zones : HasLawfulForms zones (λ z os. (w : Written) × (os ≡ written_operands w) × (zones_in w ≡ z))
    (λ z. written_operands (written_of z.0 z.1)) (λ z. FitsGlobal z.0 × AllByRecursion FitsZone z.1)
some_zones = record {
  gives =
      λ z os more end s line h.
      subst (λ (z : GlobalZone × List Zone). Gives zones z line more) s.2
      (gives_zones more end s.0 line (subst (λ (os : List Operand). AllEncode line (os ++ more)) s.1 h));
  encoded =
      λ line t h e. let s =
      zones_front line t h e in record
      { operands = written_operands s.written; encoding = (s.written, refl, s.has_value); prefix = s.prefix };
  keeps = zones_keep;
  fits =
      λ z os s h.
      subst (λ (z : GlobalZone × List Zone). FitsGlobal z.0 × AllByRecursion FitsZone z.1) s.2
      (zones_ranged s.0 (subst AllRanged s.1 h));
  fit = λ z h. zones_fit z.0 z.1 h.0 h.1;
  printed_encodes = λ z. (written_of z.0 z.1, refl, zones_read_back z.0 z.1);
}

-- ---- an owner of zones, and where it is inserted

pub adds_zone : HasLawfulForms (pair_part owner_zone zone) (λ a. EncodesZone a.0.0 a.0.1 a.1)
    (λ a. printed_zone a.0.0 a.0.1 a.1) (λ a. FitsOwnerNumber a.0.0 × ((a.0.1 < 2 ^ 32) × FitsZone a.1))
adds_zone =
    forms_as (forms_after owner_zones a_zone)
    (λ a os s.
    record {
      written =
          s.encoding.0;
      operands =
          s.parts ∙ ap (λ (os : List Operand). of_zone a.0.0 a.0.1 ++ os) s.encoding.1;
      has_value = s.encoding.2;
    })
    (λ a os s. record { following = zone_operands s.written; parts = s.operands; encoding = (s.written, refl, s.has_value) })
    (λ a h. (h.0.0, (h.0.1, h.1)))
    (λ a h. ((h.0, h.1.0), h.1.1))

-- a preset or an instrument: its index, its head and its zones
abbrev pub added : {H : Type 0} → (ℕ × H) × (GlobalZone × List Zone) → ZoneOwner H
added a = owner_of a.0.1 a.1

module _ {H : Type 0} {p : Parser (ℕ × H)} {o : H → List Operand} {F : H → Type 0} where
  pub adds_owner : IsLawful p (λ a. place a.0 ∷ o a.1) (λ a. (a.0 < 2 ^ 32) × F a.1)
      → HasLawfulForms (pair_part p zones) (λ a. EncodesOwner o a.0.0 (added a)) (λ a. printed_owner o a.0.0 (added a))
      (λ a. (a.0.0 < 2 ^ 32) × FitsOwner F (added a))
  adds_owner l =
      forms_as (forms_after l some_zones)
      (λ a os s.
      record {
        written =
            s.encoding.0;
        operands =
            s.parts ∙ ap (λ (os : List Operand). (place a.0.0 ∷ o a.0.1) ++ os) s.encoding.1;
        has_value = s.encoding.2;
      })
      (λ a os s. record { following = written_operands s.written; parts = s.operands; encoding = (s.written, refl, s.has_value) })
      (λ a h. (h.0.0, record { head = h.0.1; global = h.1.0; zones = h.1.1 }))
      (λ a h. ((h.0, h.1.head), (h.1.global, h.1.zones)))

-- the same, read as these two parts
module _ {H : Type 0} (p : Parser (ℕ × H)) where
  pub owner_parts : {Y : Type 0} (make : ℕ → ZoneOwner H → Y) (line : List TokenValue)
      → (owner p >>= λ a. pure (make a.0 a.1)) line ≡ (pair_part p zones >>= λ a. pure (make a.0.0 (added a))) line
  unfolding zones_of
  owner_parts make line =
      regrouped (p line) (λ h. zones_of h.1 >>= λ x. pure (h.0, x)) (λ a. pure (make a.0 a.1))
      ∙ same_after (p line)
      (λ h line.
      regrouped (and_then (zones line) (λ z. pure (owner_of h.1 z))) (λ x. pure (h.0, x))
      (λ a. pure (make a.0 a.1))
      ∙ regrouped (zones line) (λ z. pure (owner_of h.1 z)) (λ x. pure (make h.0 x)))
      ∙ of_two p zones (λ h z. make h.0 (owner_of h.1 z)) line
