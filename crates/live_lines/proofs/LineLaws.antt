-- With the bytes of its literals as pool, a line has its own tokens.
use Rattle.std.proofs.Common.{◌≡◌, ℕ, Bool, true, false, not, List, [], ◌∷◌, ◌++◌, map, Ok, Err, refl, sym, ap, ◌∙◌}
use Rattle.std.specs.List.{list_all, list_any}
use Rattle.std.specs.Result.{is_err}
use Rattle.std.proofs.lemmas.Bool.{and_parts}
use Rattle.std.proofs.lemmas.List.{append-nil}
use Rattle.script_tokens.specs.declared.cursor.TokenValue.{TokenValue}
use Rattle.script_tokens.specs.declared.cursor.TokenValue.TheVariants.{Word, Literal, Malformed}
use Rattle.script_tokens.specs.declared.fault.ScriptFault.{ScriptFault}
use Rattle.script_tokens.specs.Lines.{lines_of, is_feed}
use Rattle.script_tokens.specs.Tokens.{tokens_of, tokens_for}
use Rattle.script_tokens.specs.TokenValue.{values_in, values_over}
use Rattle.script_tokens.specs.Pool.{ListOrFault, and_then, gather, literal_of, literals_of, pool_bytes}
use Rattle.script_tokens.proofs.PoolLaws.{literals_in_pool}
use Rattle.live_lines.specs.Requests.{HasNoFeed, is_bad}

-- ---- a text without line feed is one line

never : (b : Bool) → not b ≡ true → b ≡ true → ⊥
never true h e = cc
never false h e = cc

first_fits : (b : ℕ) (l : List ℕ) → HasNoFeed (b ∷ l) → not (is_feed b) ≡ true
first_fits b l h = (and_parts (not (is_feed b)) (list_all (λ x. not (is_feed x)) l) h).0

others_fit : (b : ℕ) (l : List ℕ) → HasNoFeed (b ∷ l) → HasNoFeed l
others_fit b l h = (and_parts (not (is_feed b)) (list_all (λ x. not (is_feed x)) l) h).1

one_line : (b : ℕ) (l : List ℕ) (t : Bool) → is_feed b ≡ t → HasNoFeed (b ∷ l) → lines_of (b ∷ l) ≡ (b ∷ l) ∷ []
unfolding lines_of
one_line b l true e h = absurd (never (is_feed b) (first_fits b l h) e)
one_line b [] false e h = rw e refl
one_line b (c ∷ l) false e h = rw (e, one_line c l (is_feed c) refl (others_fit b (c ∷ l) h)) refl

whole : (r : ListOrFault ℕ) → and_then r (λ ys. Ok ys) ≡ r
whole (Ok ys) = refl
whole (Err f) = refl

no_tokens : values_in [] ≡ []
unfolding tokens_of tokens_for
no_tokens = refl

none_gathered : gather literals_of 1 (map values_in (lines_of [])) [] ≡ Ok []
unfolding gather lines_of
none_gathered = refl

no_literals : literals_of 1 [] [] ≡ Ok []
unfolding literals_of
no_literals = refl

one_gathered : (token_values : List TokenValue) → gather literals_of 1 (token_values ∷ []) [] ≡ literals_of 1 token_values []
unfolding gather
one_gathered token_values = whole (literals_of 1 token_values [])

pub pool_of_one : (l : List ℕ) → HasNoFeed l → pool_bytes l ≡ literals_of 1 (values_in l) []
unfolding pool_bytes
pool_of_one [] h = none_gathered ∙ sym no_literals ∙ ap (λ (s : List TokenValue). literals_of 1 s []) (sym no_tokens)
pool_of_one (b ∷ l) h =
    ap (λ (ls : List (List ℕ)). gather literals_of 1 (map values_in ls) []) (one_line b l (is_feed b) refl h)
    ∙ one_gathered (values_in (b ∷ l))

-- ---- its pool

pub values_same : (l pool : List ℕ) → HasNoFeed l → pool_bytes l ≡ Ok pool → values_over pool (tokens_of l) ≡ values_in l
values_same l pool h e =
    let s = literals_in_pool 1 (tokens_of l) [] pool (sym (pool_of_one l h) ∙ e) in
    ap (λ (p : List ℕ). values_over p (tokens_of l)) (s.parts ∙ sym (append-nil s.bytes)) ∙ s.same []

-- ---- malformed literals

bad_is_err : (n : ℕ) (token_values : List TokenValue) (pool : List ℕ) (r : ListOrFault ℕ) → literals_of n token_values pool ≡ r
    → list_any is_bad token_values ≡ is_err r
unfolding literals_of literal_of
bad_is_err n [] pool r e = ap is_err e
bad_is_err n (Word w ∷ token_values) pool r e = bad_is_err n token_values pool r e
bad_is_err n (Literal bytes ∷ token_values) pool r e = bad_is_err n token_values (pool ++ bytes) r e
bad_is_err n (Malformed ∷ token_values) pool r e = ap is_err e

pub no_bad_token : (l pool : List ℕ) → HasNoFeed l → pool_bytes l ≡ Ok pool → list_any is_bad (values_in l) ≡ false
no_bad_token l pool h e = bad_is_err 1 (values_in l) [] (Ok pool) (sym (pool_of_one l h) ∙ e)

pub has_bad_token : (l : List ℕ) (f : ScriptFault) → HasNoFeed l → pool_bytes l ≡ Err f
    → list_any is_bad (values_in l) ≡ true
has_bad_token l f h e = bad_is_err 1 (values_in l) [] (Err f) (sym (pool_of_one l h) ∙ e)
