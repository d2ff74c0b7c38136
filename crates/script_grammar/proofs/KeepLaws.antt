-- The parsers leave no more tokens than there were.
use Rattle.std.proofs.Common.{◌≡◌, ◌≤◌, ℕ, Bool, true, false, List, [], ◌∷◌, length, codes, None, refl, sym, ap, ◌∙◌}
use Rattle.std.proofs.Common.{arith}
use Rattle.std.specs.Str.{bytes_eq}
use Rattle.bank_parts.specs.declared.parts.Zone.{Zone}
use Rattle.script_tokens.specs.declared.fault.LineFault.TheVariants as faults
use Rattle.script_tokens.specs.Parsers.{◌>>=◌, pure, is_next, word, literal, most_word, most_double_word, name}
use Rattle.script_tokens.proofs.ReadLaws.{literal_is}
use Rattle.script_grammar.specs.Names.{next_named}
use Rattle.script_grammar.specs.Samples.{kind_after_word, kind, loop_after_word, looped, points, tune, body}
use Rattle.script_grammar.specs.Texts.{id_word, ids, info_id}
use Rattle.script_grammar.specs.Items.{items, no_content}
use Rattle.script_grammar.specs.Zones.{opened, zone_after_brace, zone, is_end, with_zone, remaining_zones, global_zones}
use Rattle.script_grammar.specs.Zones.{global_after_brace, first_zone_after_brace, zones_after_brace, zones}
use Rattle.script_grammar.proofs.RepeatedLaws.{Keeps, shortens_keeps, pure_keeps, fault_keeps, then_keeps}
use Rattle.script_grammar.proofs.RepeatedLaws.{either_keeps, word_shortens, repeated_keeps}
use Rattle.script_grammar.proofs.ItemLaws.{number_keeps, signed_keeps, items_keeps, zone_after_brace_keeps}
use Rattle.script_grammar.proofs.ItemLaws.{fixed_shortens, zone_shortens, global_first, zone_first, zones_none}
use Rattle.script_grammar.proofs.ItemLaws.{zones_some}

word_keeps : Keeps word
word_keeps = shortens_keeps word word_shortens

pub literal_keeps : Keeps literal
literal_keeps line t e = let k = literal_is line t e in omega (arith, ap length k)

pub name_keeps : Keeps name
unfolding name
name_keeps = then_keeps literal _ literal_keeps (λ bytes. fault_keeps _ _)

pub named_keeps : {X : Type 0} (word_of : X → List ℕ) (xs : List X) → Keeps (next_named word_of xs)
unfolding next_named
named_keeps word_of xs = then_keeps word _ word_keeps (λ w. fault_keeps _ _)

-- ---- samples

pub points_keep : Keeps points
unfolding points
points_keep = then_keeps literal _ literal_keeps (λ bytes. fault_keeps _ _)

kind_after_word_keeps : (w : List ℕ) → Keeps (kind_after_word w)
unfolding kind_after_word
kind_after_word_keeps w =
    either_keeps (bytes_eq w (codes "mono")) _ _ (pure_keeps _)
    (either_keeps (bytes_eq w (codes "right")) _ _ (then_keeps _ _ (number_keeps most_word) (λ link. pure_keeps _))
    (either_keeps (bytes_eq w (codes "left")) _ _ (then_keeps _ _ (number_keeps most_word) (λ link. pure_keeps _))
    (either_keeps (bytes_eq w (codes "linked")) _ _ (then_keeps _ _ (number_keeps most_word)
    (λ link. pure_keeps _)) (fault_keeps faults.Syntax None))))

pub kind_keeps : Keeps kind
unfolding kind
kind_keeps = then_keeps word kind_after_word word_keeps kind_after_word_keeps

loop_after_word_keeps : (w : List ℕ) → Keeps (loop_after_word w)
unfolding loop_after_word
loop_after_word_keeps w =
    either_keeps (bytes_eq w (codes "noloop")) _ _ (pure_keeps _)
    (either_keeps (bytes_eq w (codes "loop")) _ _
    (then_keeps _ _ (number_keeps most_double_word)
    (λ a. then_keeps _ _ (number_keeps most_double_word) (λ b. pure_keeps _)))
    (fault_keeps faults.Syntax None))

pub looped_keeps : Keeps looped
unfolding looped
looped_keeps = then_keeps word loop_after_word word_keeps loop_after_word_keeps

pub tune_keeps : Keeps tune
unfolding tune
tune_keeps =
    then_keeps _ _ (number_keeps most_double_word)
    (λ rate.
    then_keeps _ _ (number_keeps 255) (λ key. then_keeps _ _ (signed_keeps 127) (λ correction. pure_keeps _)))

pub body_keeps : Keeps body
unfolding body
body_keeps =
    then_keeps name _ name_keeps (λ n.
    then_keeps tune _ tune_keeps (λ t.
    then_keeps kind _ kind_keeps (λ k.
    then_keeps looped _ looped_keeps (λ l.
    then_keeps points _ points_keep (λ p. pure_keeps _)))))

-- ---- texts

pub id_keeps : Keeps info_id
unfolding info_id
id_keeps = named_keeps id_word ids

-- ---- zones

pub zone_keeps : Keeps zone
zone_keeps = shortens_keeps zone zone_shortens

left_keep : (zs : List Zone) → Keeps (remaining_zones zs)
unfolding remaining_zones
left_keep zs line t e = repeated_keeps is_end pure zone with_zone (λ zs. pure_keeps zs) zone_keeps zs line t e

global_keeps : Keeps global_after_brace
unfolding global_after_brace global_zones
global_keeps =
    then_keeps word _ word_keeps
    (λ w. then_keeps items _ items_keeps (λ g. then_keeps (remaining_zones []) _ (left_keep []) (λ zs. pure_keeps _)))

first_keeps : Keeps first_zone_after_brace
unfolding first_zone_after_brace
first_keeps =
    then_keeps zone_after_brace _ zone_after_brace_keeps
    (λ z. then_keeps (remaining_zones (z ∷ [])) _ (left_keep (z ∷ [])) (λ zs. pure_keeps _))

zones_after_brace_keeps : Keeps zones_after_brace
zones_after_brace_keeps line t e = from (is_next (codes "global") line) refl
  where
    from : (b : Bool) → is_next (codes "global") line ≡ b → length t.rest ≤ length line
    from true k = global_keeps line t (sym (global_first line k) ∙ e)
    from false k = first_keeps line t (sym (zone_first line k) ∙ e)

some_keep : Keeps (opened >>= λ o. zones_after_brace)
some_keep = then_keeps opened _ (shortens_keeps opened (fixed_shortens (codes "{"))) (λ o. zones_after_brace_keeps)

pub zones_keep : Keeps zones
zones_keep line t e = from (is_end line) refl
  where
    from : (b : Bool) → is_end line ≡ b → length t.rest ≤ length line
    from true k = pure_keeps (no_content, []) line t (sym (zones_none line k) ∙ e)
    from false k = some_keep line t (sym (zones_some line k) ∙ e)
