-- The request of a line, step by step.
use Rattle.std.proofs.Common.{◌≡◌, ℕ, Bool, true, false, List, [], ◌∷◌, drop, Option, Some, None, Result, Ok, Err}
use Rattle.std.proofs.Common.{refl, sym, ap, ◌∙◌}
use Rattle.std.specs.List.{list_any}
use Rattle.std.specs.Result.{IsOk}
use Rattle.script_tokens.specs.declared.cursor.TokenValue.{TokenValue}
use Rattle.script_tokens.specs.declared.cursor.TokenValue.TheVariants.{Word, Literal, Malformed}
use Rattle.script_tokens.specs.declared.fault.LineFault.{LineFault}
use Rattle.script_tokens.specs.declared.fault.ScriptFault.{ScriptFault}
use Rattle.script_tokens.specs.TokenValue.{values_in}
use Rattle.script_tokens.specs.declared.fault.LineFault.TheVariants as line
use Rattle.script_tokens.specs.Parsers.{Parsed, and_then, word, or_fault}
use Rattle.script_tokens.specs.Pool.{pool_bytes}
use Rattle.script_grammar.specs.Names.{named, next_named}
use Rattle.edit_script.specs.Grammar.{edit}
use Rattle.live_lines.specs.declared.command.Command.{Command}
use Rattle.live_lines.specs.declared.fault.RequestFault.TheVariants as faults
use Rattle.live_lines.specs.declared.request.Request.TheVariants as asks
use Rattle.live_lines.specs.Requests.{made_request, command_word, commands, request_by, some_request, is_bad, request}
use Rattle.live_lines.specs.Requests.{request_of, HasNoFeed}
use Rattle.live_lines.proofs.LineLaws.{no_bad_token, has_bad_token}

pub asks_nothing : (token_values : List TokenValue) → token_values ≡ [] → request_of token_values ≡ Ok None
unfolding request_of
asks_nothing [] e = refl
asks_nothing (s ∷ token_values) e = cc

asks_for : (token_values : List TokenValue) → list_any is_bad token_values ≡ false → (token_values ≡ [] → ⊥)
    → request_of token_values ≡ some_request (request token_values)
unfolding request_of
asks_for [] b some = absurd (some refl)
asks_for (s ∷ token_values) b some = rw b refl

pub line_asks : (l pool : List ℕ) (token_values : List TokenValue) → HasNoFeed l → pool_bytes l ≡ Ok pool → token_values ≡ values_in l
    → (token_values ≡ [] → ⊥) → request_of (values_in l) ≡ some_request (request token_values)
line_asks l pool token_values h e s some =
    asks_for (values_in l) (no_bad_token l pool h e) (λ n. some (s ∙ n))
    ∙ ap (λ (x : List TokenValue). some_request (request x)) (sym s)

pub bad_line : (l : List ℕ) (f : ScriptFault) → HasNoFeed l → pool_bytes l ≡ Err f
    → request_of (values_in l) ≡ Err faults.Literal
unfolding request_of
bad_line l f h e = rw (has_bad_token l f h e) refl

-- ---- the word of a command

pub rest_after_word : (token_values : List TokenValue) (t : Parsed (List ℕ)) → word token_values ≡ Ok t → t.rest ≡ drop 1 token_values
unfolding word
rest_after_word [] t e = cc
rest_after_word (Word w ∷ token_values) t e = cc
rest_after_word (Literal bytes ∷ token_values) t e = cc
rest_after_word (Malformed ∷ token_values) t e = cc

named_after : (token_values : List TokenValue) (t : Parsed Command) → next_named command_word commands token_values ≡ Ok t
    → (w : Parsed (List ℕ)) × (word token_values ≡ Ok w) × (t.rest ≡ w.rest)
unfolding next_named
named_after token_values t e = from (word token_values) refl e
  where
    command_named : (w : Parsed (List ℕ)) (o : Option Command) → or_fault line.Syntax o w.rest ≡ Ok t → t.rest ≡ w.rest
    command_named w (Some c) e = cc
    command_named w None e = cc

    from : (r : Result (Parsed (List ℕ)) LineFault) → word token_values ≡ r
        → and_then r (λ w. or_fault line.Syntax (named command_word commands w)) ≡ Ok t
        → (w : Parsed (List ℕ)) × (word token_values ≡ Ok w) × (t.rest ≡ w.rest)
    from (Ok w) k e = (w, k, command_named w (named command_word commands w.value) e)
    from (Err f) k e = cc

pub command_is_word : (token_values : List TokenValue) (t : Parsed Command) → next_named command_word commands token_values ≡ Ok t
    → IsOk (word token_values)
command_is_word token_values t e = let n = named_after token_values t e in rw n.1 refl

pub rest_after_command : (token_values : List TokenValue) (t : Parsed Command) → next_named command_word commands token_values ≡ Ok t
    → t.rest ≡ drop 1 token_values
rest_after_command token_values t e = let n = named_after token_values t e in n.2 ∙ rest_after_word token_values n.0 n.1

pub is_command : (token_values : List TokenValue) (t : Parsed Command) → next_named command_word commands token_values ≡ Ok t
    → request token_values ≡ request_by t.value t.rest
unfolding request
is_command token_values t e = rw e refl

pub is_edit : (token_values : List TokenValue) (f : LineFault) → next_named command_word commands token_values ≡ Err f
    → request token_values ≡ made_request asks.Edit (edit token_values)
unfolding request
is_edit token_values f e = rw e refl

pub not_both : {b : Bool} → b ≡ true → b ≡ false → ⊥
not_both p q = cc
