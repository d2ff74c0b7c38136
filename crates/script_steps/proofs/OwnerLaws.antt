-- The laws of an owner, of a place in it, and of operands that several forms share.
use Rattle.std.proofs.Common.{◌≡◌, ◌≤◌, ◌<◌, ◌^◌, ℕ, length, Bool, true, false, cond, List, [], ◌∷◌, codes, Ok, Some}
use Rattle.std.proofs.Common.{refl, subst}
use Rattle.sf_base.specs.Names.{IsName}
use Rattle.bank_parts.specs.Fits.{FitsHead}
use Rattle.bank_changes.specs.declared.members.Owner.{Owner}
use Rattle.bank_changes.specs.declared.members.Owner.TheVariants as owner
use Rattle.bank_changes.specs.declared.members.Place.{Place}
use Rattle.bank_changes.specs.declared.members.Place.TheVariants as there
use Rattle.edit_forms.specs.Fits.{FitsOwnerNumber, FitsPlace}
use Rattle.script_tokens.specs.declared.cursor.TokenValue.{TokenValue}
use Rattle.script_tokens.specs.Parsers.{Parser, Parsed, ◌>>=◌, pure, is_next, word, most_word, most_double_word, number, name}
use Rattle.script_tokens.proofs.ReadLaws.{AllHoldBytes, both}
use Rattle.script_grammar.specs.Operands.{Operand, Fixed, AllEncode}
use Rattle.script_grammar.specs.Names.{named, next_named}
use Rattle.script_grammar.proofs.CompletenessLaws as complete
use Rattle.script_grammar.proofs.CompletenessLaws.{Gives, gives_pure, gives_word, gives_number}
use Rattle.script_grammar.proofs.ZoneCompletenessLaws.{next_word, not_global, as_other}
use Rattle.script_grammar.proofs.ReadLaws.{PrefixEncodes, made, word_front, number_front}
use Rattle.script_grammar.proofs.ZoneReadLaws.{next_is}
use Rattle.script_grammar.proofs.RepeatedLaws.{shortens_keeps, pure_keeps, then_keeps, word_shortens}
use Rattle.script_grammar.proofs.ItemLaws.{number_keeps}
use Rattle.script_grammar.proofs.FitLaws.{AllRanged, word32}
use Rattle.script_grammar.proofs.OperandLaws.{IsFixed, AllFit}
use Rattle.script_steps.specs.declared.owners.OwnerKind.{OwnerKind}
use Rattle.script_steps.specs.declared.owners.OwnerKind.TheVariants as kind
use Rattle.script_steps.specs.Members.{place, named_operands, moved_operands, indexed_name, index_pair}
use Rattle.script_steps.specs.Owners.{kind_word, kinds, kind_of, number_in, of_owner, at_place, of_zone, of_place}
use Rattle.script_steps.specs.Owners.{owner_with, an_owner, a_place, owner_zone, owner_place}
use Rattle.script_steps.specs.Presets.{head_operands, head_of, head, placed_head}
use Rattle.script_steps.proofs.Lawful.{IsLawful, ◌&◌, of_two, of_more, made_lawful, index, number16, named_lawful}
use Rattle.script_steps.proofs.Lawful.{a_name}

-- ---- an index, and what follows it

pub names : IsLawful indexed_name (λ n. named_operands n.0 n.1) (λ n. (n.0 < 2 ^ 32) × IsName n.1)
unfolding indexed_name
names = index & a_name

pub moves : IsLawful index_pair (λ m. moved_operands m.0 m.1) (λ m. (m.0 < 2 ^ 32) × (m.1 < 2 ^ 32))
unfolding index_pair
moves = index & index

-- ---- the head of a preset

a_head : IsLawful head head_operands FitsHead
unfolding head
a_head =
    made_lawful (a_name & number16 & number16 & index & index & index)
    (λ a. head_of a.0 a.1.0 a.1.1.0 a.1.1.1.0 a.1.1.1.1.0 a.1.1.1.1.1)
    (λ h. (h.name, (h.number, (h.bank, (h.library, (h.genre, h.morphology))))))
    (of_more name (number16 & number16 & index & index & index) _ (λ n.
    of_more (number most_word) (number16 & index & index & index) _ (λ p.
    of_more (number most_word) (index & index & index) _ (λ b.
    of_more (number most_double_word) (index & index) _ (λ l.
    of_two (number most_double_word) (number most_double_word) _)))))
    (λ h. refl)
    (λ a. refl)
    (λ a. (
      λ h.
          record {
            name =
                h.0;
            number =
                h.1.0;
            bank = h.1.1.0;
            library = h.1.1.1.0;
            genre = h.1.1.1.1.0;
            morphology = h.1.1.1.1.1;
          },
      λ h. (h.name, (h.number, (h.bank, (h.library, (h.genre, h.morphology))))),
    ))

pub heads : IsLawful placed_head (λ a. place a.0 ∷ head_operands a.1) (λ a. (a.0 < 2 ^ 32) × FitsHead a.1)
unfolding placed_head
heads = index & a_head

-- ---- an owner

kind_named : (k : OwnerKind) → named kind_word kinds (kind_word k) ≡ Some k
kind_named kind.Preset = refl
kind_named kind.Instrument = refl

kind_fixed : (k : OwnerKind) → IsFixed (kind_word k)
kind_fixed kind.Preset = (refl, refl)
kind_fixed kind.Instrument = (refl, refl)

owner_is : (o : Owner) → owner_with (kind_of o) (number_in o) ≡ o
owner_is (owner.Preset p) = refl
owner_is (owner.Inst i) = refl

owner_operands_same : (k : OwnerKind) (n : ℕ) → Fixed (kind_word k) ∷ place n ∷ [] ≡ of_owner (owner_with k n)
owner_operands_same kind.Preset n = refl
owner_operands_same kind.Instrument n = refl

owner_fits : (k : OwnerKind) (n : ℕ)
    → (Unit {0} × (n < 2 ^ 32) → FitsOwnerNumber (owner_with k n))
    × (FitsOwnerNumber (owner_with k n) → Unit {0} × (n < 2 ^ 32))
owner_fits kind.Preset n = (λ h. h.1, λ h. (tt, h))
owner_fits kind.Instrument n = (λ h. h.1, λ h. (tt, h))

pub owners : IsLawful an_owner of_owner FitsOwnerNumber
unfolding an_owner
owners =
    made_lawful (named_lawful kind_word kinds kind_named kind_fixed & index) (λ a. owner_with a.0 a.1)
    (λ o. (kind_of o, number_in o)) (of_two (next_named kind_word kinds) (number most_double_word) owner_with)
    owner_is (λ a. owner_operands_same a.0 a.1) (λ a. owner_fits a.0 a.1)

-- ---- a place in an owner

global : Parser Place
global = word >>= λ w. pure there.Global

zone : Parser Place
zone = number most_double_word >>= λ k. pure (there.Zone k)

pub places : IsLawful a_place (λ p. at_place p ∷ []) FitsPlace
unfolding a_place global zone
places =
    record {
      gives =
          gives;
      prefix =
          λ line t h e. prefix line t h (is_next (codes "global") line) refl e;
      keeps =
          λ line t e. keeps line t (is_next (codes "global") line) e;
      fits = fits;
      fit = fit;
    }
  where
    gives : (p : Place) (line : List TokenValue) (more : List Operand) → AllEncode line (at_place p ∷ more)
        → Gives a_place p line more
    gives there.Global line more h =
        as_other global a_place there.Global line more
        (rw (next_word (codes "global") (codes "global") line more h) refl)
        (complete.then _ (gives_word (codes "global") line more h) (λ rest k. gives_pure there.Global rest more k))
    gives (there.Zone z) line more h =
        as_other zone a_place (there.Zone z) line more (rw (not_global most_double_word z line more h) refl)
        (complete.then _ (gives_number most_double_word z line more h) (λ rest k. gives_pure (there.Zone z) rest more k))

    prefix : (line : List TokenValue) (t : Parsed Place) → AllHoldBytes line → (b : Bool) → is_next (codes "global") line ≡ b
        → cond b (global line) (zone line) ≡ Ok t → PrefixEncodes line t.rest (at_place t.value ∷ [])
    prefix line t h true k e =
        let w = both (word line) (λ w. pure there.Global) t e in
        subst (λ (t : Parsed Place). PrefixEncodes line t.rest (at_place t.value ∷ []))
        (made there.Global w.first.rest t w.second)
        (subst (λ (v : List ℕ). PrefixEncodes line w.first.rest (Fixed v ∷ []))
        (next_is (codes "global") line w.first w.is k) (word_front line w.first h w.is))
    prefix line t h false k e =
        let n = both (number most_double_word line) (λ k. pure (there.Zone k)) t e in
        subst (λ (t : Parsed Place). PrefixEncodes line t.rest (at_place t.value ∷ []))
        (made (there.Zone n.first.value) n.first.rest t n.second)
        (number_front most_double_word line n.first h n.is)

    keeps : (line : List TokenValue) (t : Parsed Place) → (b : Bool) → cond b (global line) (zone line) ≡ Ok t
        → length t.rest ≤ length line
    keeps line t true e = then_keeps word _ (shortens_keeps word word_shortens) (λ w. pure_keeps there.Global) line t e
    keeps line t false e =
        then_keeps (number most_double_word) _ (number_keeps most_double_word) (λ k. pure_keeps (there.Zone k)) line
        t e

    fits : (p : Place) → AllRanged (at_place p ∷ []) → FitsPlace p
    fits there.Global h = tt
    fits (there.Zone k) h = index.fits k h

    fit : (p : Place) → FitsPlace p → AllFit (at_place p ∷ [])
    fit there.Global h = ((refl, refl), tt)
    fit (there.Zone k) h = (word32 k h, tt)

-- ---- an owner and a place in it

pub owner_zones : IsLawful owner_zone (λ z. of_zone z.0 z.1) (λ z. FitsOwnerNumber z.0 × (z.1 < 2 ^ 32))
unfolding owner_zone
owner_zones = owners & index

pub owner_places : IsLawful owner_place (λ p. of_place p.0 p.1) (λ p. FitsOwnerNumber p.0 × FitsPlace p.1)
unfolding owner_place
owner_places = owners & places
