-- Completeness of reading: the operands of a step or a group on a line are read as such.
use Rattle.std.proofs.Common.{◌≡◌, true, false, List, [], ◌∷◌, ◌++◌, codes, Ok, refl, sym, ap, subst, append_assoc, ◌∙◌}
use Rattle.std.proofs.lemmas.List.{append-nil}
use Rattle.edit_forms.specs.declared.step.Step.{Step}
use Rattle.edit_forms.specs.declared.edit.Edit.{Edit}
use Rattle.edit_forms.specs.declared.edit.Edit.TheVariants.{One, Group}
use Rattle.script_tokens.specs.declared.cursor.TokenValue.{TokenValue}
use Rattle.script_tokens.specs.Parsers.{is_next}
use Rattle.script_grammar.specs.Operands.{Operand, Fixed, AllEncode}
use Rattle.script_grammar.proofs.CompletenessLaws.{Gives, then, gives_pure, gives_fixed}
use Rattle.script_grammar.proofs.ZoneCompletenessLaws.{next_word, nothing_ends, brace_ends, as_other}
use Rattle.script_steps.specs.Grammar.{word_of}
use Rattle.script_steps.specs.TextForm.{EncodesWholeStep}
use Rattle.script_steps.proofs.StepLaws.{gives_step, not_group}
use Rattle.edit_script.specs.Grammar.{in_braces, EncodesSteps, EncodesGroup, HasOperands, braced_step, is_over, with_step}
use Rattle.edit_script.specs.Grammar.{remaining_steps, group, one, one_or_group}
use Rattle.edit_script.proofs.StepsLaws.{steps_end, steps_go_on, group_first, one_first}

gives_braced : (s : Step) (os more : List Operand) → EncodesWholeStep s os → (line : List TokenValue)
    → AllEncode line (in_braces os ++ more) → Gives braced_step s line more
unfolding braced_step
gives_braced s os more h line k =
    let encoding : AllEncode line (Fixed (codes "{") ∷ (os ++ Fixed (codes "}") ∷ more)) =
    subst (λ (all : List Operand). AllEncode line (Fixed (codes "{") ∷ all))
    (append_assoc os (Fixed (codes "}") ∷ []) more) k in
    then _ (gives_fixed (codes "{") line (os ++ Fixed (codes "}") ∷ more) encoding) (λ rest k.
    then _ (gives_step s os (Fixed (codes "}") ∷ more) (brace_ends more) h rest k) (λ rest k.
    then _ (gives_fixed (codes "}") rest more k) (λ rest k. gives_pure s rest more k)))

none_left : (line : List TokenValue) → AllEncode line [] → is_over line ≡ true
none_left [] h = refl
none_left (s ∷ line) h = absurd h

some_left : (line : List TokenValue) (o : Operand) (more : List Operand) → AllEncode line (o ∷ more) → is_over line ≡ false
some_left [] o more h = absurd h
some_left (s ∷ line) o more h = refl

gives_steps_left : (ms : List Step) (os : List Operand) (ss : List Step) → EncodesSteps ms os → (line : List TokenValue)
    → AllEncode line os → Gives (remaining_steps ss) (ss ++ ms) line []
gives_steps_left [] os ss h line k =
    let encoding : AllEncode line [] = subst (AllEncode line) h k in
    record {
      rest =
          line;
      is =
          steps_end ss line (none_left line encoding)
          ∙ ap (λ (all : List Step). Ok (record { value = all; rest = line })) (sym (append-nil ss));
      encoding =
          encoding;
    }
gives_steps_left (m ∷ ms) os ss h line k =
    let encoding : AllEncode line (in_braces h.operands ++ h.more) = subst (AllEncode line) h.parts k in
    let g = gives_braced m h.operands h.more h.encoding line encoding in
    let l = gives_steps_left ms h.more (with_step ss m) h.follow g.rest g.encoding in
    record {
      rest = l.rest;
      is =
          steps_go_on ss line _
          (some_left line (Fixed (codes "{")) ((h.operands ++ Fixed (codes "}") ∷ []) ++ h.more) encoding) g.is
          ∙ l.is
          ∙ ap (λ (all : List Step). Ok (record { value = all; rest = l.rest })) (append_assoc ss (m ∷ []) ms);
      encoding = l.encoding;
    }

gives_group : (ss : List Step) (os : List Operand) → EncodesGroup ss os → (line : List TokenValue) → AllEncode line os
    → Gives group (Group ss) line []
unfolding group
gives_group ss os h line k =
    then _ (gives_fixed (codes "group") line h.braces (subst (AllEncode line) h.parts k)) (λ rest k.
    then _ (gives_steps_left ss h.braces [] h.encoding rest k) (λ rest k. gives_pure (Group ss) rest [] k))

gives_one : (s : Step) (os : List Operand) → EncodesWholeStep s os → (line : List TokenValue) → AllEncode line os
    → Gives one (One s) line []
unfolding one
gives_one s os h line k =
    then _ (gives_step s os [] nothing_ends h line (subst (AllEncode line) (sym (append-nil os)) k))
    (λ rest k. gives_pure (One s) rest [] k)

no_group : (s : Step) (os : List Operand) → EncodesWholeStep s os → (line : List TokenValue) → AllEncode line os
    → is_next (codes "group") line ≡ false
no_group s os h line k =
    next_word (word_of s) (codes "group") line h.operands (subst (AllEncode line) h.parts k)
    ∙ not_group s

pub gives_edit : (e : Edit) (os : List Operand) → HasOperands e os → (line : List TokenValue) → AllEncode line os
    → Gives one_or_group e line []
gives_edit (One s) os h line k =
    as_other one one_or_group (One s) line [] (one_first line (no_group s os h line k)) (gives_one s os h line k)
gives_edit (Group ss) os h line k =
    as_other group one_or_group (Group ss) line []
    (group_first line (next_word (codes "group") (codes "group") line h.braces (subst (AllEncode line) h.parts k)))
    (gives_group ss os h line k)
