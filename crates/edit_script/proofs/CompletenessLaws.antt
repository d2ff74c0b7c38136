-- Completeness of reading: the edits that a text encodes are read from it.
use Rattle.std.proofs.Common.{◌≡◌, ℕ, suc, List, [], ◌∷◌, ◌++◌, map, Ok, refl, sym, ap, subst, append_assoc, ◌∙◌}
use Rattle.std.proofs.Common.{inl, inr}
use Rattle.std.specs.Result.{result_and}
use Rattle.std.specs.List.{AllByRecursion}
use Rattle.std.proofs.lemmas.List.{append-nil}
use Rattle.edit_forms.specs.declared.edit.Edit.{Edit}
use Rattle.edit_forms.specs.declared.edit.Edit.TheVariants.{One, Group}
use Rattle.script_tokens.specs.declared.cursor.TokenValue.{TokenValue}
use Rattle.script_tokens.specs.Lines.{lines_of}
use Rattle.script_tokens.specs.TokenValue.{values_in, values_of_lines}
use Rattle.script_tokens.specs.Parsers.{and_then, ended}
use Rattle.script_tokens.specs.Pool as pool
use Rattle.script_tokens.specs.Pool.{ListOrFault, gather, pool_bytes}
use Rattle.script_tokens.specs.TextForm.{HasNoTokens, LineHasValues}
use Rattle.script_tokens.proofs.CompletenessLaws.{HasLineValues, line_values, lines_grow}
use Rattle.script_tokens.proofs.GatherLaws.{gather_on, gather_none}
use Rattle.edit_script.specs.declared.parsing.Line.{Line}
use Rattle.script_grammar.specs.Operands.{Operand, AllEncode}
use Rattle.edit_script.specs.Grammar.{HasOperands, edit}
use Rattle.edit_script.specs.Script.{edit_of, with_edit, edits_in, script_of}
use Rattle.edit_script.specs.TextForm.{EncodesEdit, LinesEncode, Spells}
use Rattle.edit_script.proofs.ScriptLaws.{one_more, line_without_tokens}
use Rattle.edit_script.proofs.GroupCompletenessLaws.{gives_edit}

nothing_left : (line : List TokenValue) → AllEncode line [] → line ≡ []
nothing_left [] h = refl
nothing_left (s ∷ line) h = absurd h

pub edit_read : (token_values : List TokenValue) (e : Edit) → EncodesEdit token_values e → edit token_values ≡ Ok (record { value = e; rest = [] })
unfolding edit ended
edit_read token_values e h =
    let g = gives_edit e h.operands h.encoding token_values h.tokens in
    ap (λ r. and_then r (λ e. ended e)) g.is ∙ ap (ended e) (nothing_left g.rest g.encoding)

-- every edit consumes a token
edit_not_empty : (e : Edit) (os : List Operand) → HasOperands e os → AllEncode [] os → ⊥
edit_not_empty (One s) os h k = subst (AllEncode []) h.parts k
edit_not_empty (Group ss) os h k = subst (AllEncode []) h.parts k

edit_has_tokens : (e : Edit) → EncodesEdit [] e → ⊥
edit_has_tokens e h = edit_not_empty e h.operands h.encoding h.tokens

-- ---- lines

-- each line that encodes edits has a value
all_say : (n : ℕ) (ls : List (List ℕ)) (edits : List Line) → LinesEncode n ls edits → AllByRecursion HasLineValues ls
all_say n [] edits h = tt
all_say n (l ∷ ls) edits (inl h) = (([], h.0), all_say (suc n) ls edits h.1)
all_say n (l ∷ ls) edits (inr h) = ((h.token_values, h.tokens), all_say (suc n) ls h.more h.follow)

-- what a line adds to the edits before it
silent_kept : (n : ℕ) (l : List ℕ) (edits : List Line) → HasNoTokens l → edit_of n (values_in l) edits ≡ Ok edits
silent_kept n l edits h = line_without_tokens n (values_in l) edits (line_values [] l h)

edit_added : (n : ℕ) (l : List ℕ) (token_values : List TokenValue) (e : Edit) (before : List Line) → LineHasValues l token_values
    → EncodesEdit token_values e → edit_of n (values_in l) before ≡ Ok (before ++ record { number = n; edit = e } ∷ [])
edit_added n l token_values e before t h =
    ap (λ (s : List TokenValue). edit_of n s before) (line_values token_values l t)
    ∙ one_more n token_values before (λ k. edit_has_tokens e (subst (λ (s : List TokenValue). EncodesEdit s e) k h))
    ∙ ap (with_edit n before) (edit_read token_values e h)

gathered : (n : ℕ) (ls : List (List ℕ)) (before edits : List Line) → LinesEncode n ls edits
    → gather edit_of n (map values_in ls) before ≡ Ok (before ++ edits)
gathered n [] before edits h =
    gather_none edit_of n before
    ∙ ap (λ (l : List Line). Ok l) (sym (ap (λ (l : List Line). before ++ l) h ∙ append-nil before))
gathered n (l ∷ ls) before edits (inl h) =
    gather_on edit_of n (values_in l) (map values_in ls) before
    ∙ ap (λ (r : ListOrFault Line). pool.and_then r (λ more. gather edit_of (suc n) (map values_in ls) more))
    (silent_kept n l before h.0)
    ∙ gathered (suc n) ls before edits h.1
gathered n (l ∷ ls) before edits (inr h) =
    let one : Line = record { number = n; edit = h.edit } in
    gather_on edit_of n (values_in l) (map values_in ls) before
    ∙ ap (λ (r : ListOrFault Line). pool.and_then r (λ more. gather edit_of (suc n) (map values_in ls) more))
    (edit_added n l h.token_values h.edit before h.tokens h.form)
    ∙ gathered (suc n) ls (before ++ one ∷ []) h.more h.follow
    ∙ ap (λ (l : List Line). Ok l)
    (append_assoc before (one ∷ []) h.more ∙ ap (λ (l : List Line). before ++ l) (sym h.parts))

pub spelled_read : (text : List ℕ) (edits : List Line) → Spells text edits → script_of text ≡ Ok edits
unfolding script_of pool_bytes edits_in
spelled_read text edits h =
    let p = lines_grow 1 (lines_of text) [] (all_say 1 (lines_of text) edits h) in
    ap (λ (r : ListOrFault ℕ). result_and r (gather edit_of 1 (values_of_lines text) [])) p.1
    ∙ gathered 1 (lines_of text) [] edits h

pub one_reading : (text : List ℕ) (a b : List Line) → Spells text a → Spells text b → a ≡ b
one_reading text a b p q = let e = sym (spelled_read text a p) ∙ spelled_read text b q in cc
