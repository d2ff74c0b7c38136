-- A list of steps, one step at a time, and what follows the first token of a line.
use Rattle.std.proofs.Common.{◌≡◌, true, false, List, [], ◌∷◌, codes, Ok, Err, refl}
use Rattle.edit_forms.specs.declared.step.Step.{Step}
use Rattle.script_tokens.specs.declared.cursor.TokenValue.{TokenValue}
use Rattle.script_tokens.specs.declared.fault.LineFault.{LineFault}
use Rattle.script_tokens.specs.Parsers.{Parsed, pure, is_next}
use Rattle.script_grammar.specs.Names.{fixed}
use Rattle.script_grammar.proofs.RepeatedLaws.{Shortens, shortens_keeps, pure_keeps, then_keeps, then_shortens}
use Rattle.script_grammar.proofs.RepeatedLaws.{repeated_ends, repeated_continues, repeated_fails}
use Rattle.script_grammar.proofs.ItemLaws.{fixed_shortens}
use Rattle.script_steps.specs.Grammar.{step}
use Rattle.script_steps.proofs.StepLaws.{step_keeps}
use Rattle.edit_script.specs.Grammar.{braced_step, is_over, with_step, remaining_steps, group, one, one_or_group}

pub braced_shortens : Shortens braced_step
unfolding braced_step
braced_shortens =
    then_shortens (fixed (codes "{")) _ (fixed_shortens (codes "{")) (λ o.
    then_keeps step _ step_keeps (λ s.
    then_keeps (fixed (codes "}")) _ (shortens_keeps (fixed (codes "}")) (fixed_shortens (codes "}")))
    (λ c. pure_keeps s)))

pub steps_end : (ss : List Step) (line : List TokenValue) → is_over line ≡ true → remaining_steps ss line ≡ pure ss line
unfolding remaining_steps
steps_end ss line e = repeated_ends is_over pure braced_step with_step ss line e

pub steps_go_on : (ss : List Step) (line : List TokenValue) (t : Parsed Step) → is_over line ≡ false
    → braced_step line ≡ Ok t → remaining_steps ss line ≡ remaining_steps (with_step ss t.value) t.rest
unfolding remaining_steps
steps_go_on ss line t e i = repeated_continues is_over pure braced_step with_step braced_shortens ss line t e i

pub steps_fail : (ss : List Step) (line : List TokenValue) (d : LineFault) → is_over line ≡ false
    → braced_step line ≡ Err d → remaining_steps ss line ≡ Err d
unfolding remaining_steps
steps_fail ss line d e i = repeated_fails is_over pure braced_step with_step ss line d e i

-- whether a token remains
pub over_is : (line : List TokenValue) → line ≡ [] → is_over line ≡ true
over_is [] e = refl
over_is (s ∷ line) e = cc

pub not_over : (line : List TokenValue) → (line ≡ [] → ⊥) → is_over line ≡ false
not_over [] h = absurd (h refl)
not_over (s ∷ line) h = refl

pub group_first : (line : List TokenValue) → is_next (codes "group") line ≡ true → one_or_group line ≡ group line
unfolding one_or_group
group_first line e = rw e refl

pub one_first : (line : List TokenValue) → is_next (codes "group") line ≡ false → one_or_group line ≡ one line
unfolding one_or_group
one_first line e = rw e refl
