-- Soundness of reading: a text encodes the edits that are read from it.
use Rattle.std.proofs.Common.{◌≡◌, ℕ, suc, List, [], ◌∷◌, ◌++◌, map, Result, Ok, Err, refl, sym, ap, subst, ◌∙◌}
use Rattle.std.proofs.Common.{append_assoc, inl, inr, ◌⊎◌}
use Rattle.std.specs.List.{AllByRecursion}
use Rattle.std.specs.Result.{result_and}
use Rattle.std.proofs.lemmas.List.{append-nil}
use Rattle.edit_forms.specs.declared.edit.Edit.{Edit}
use Rattle.script_tokens.specs.declared.cursor.TokenValue.{TokenValue}
use Rattle.script_tokens.specs.declared.fault.LineFault.{LineFault}
use Rattle.script_tokens.specs.Lines.{lines_of}
use Rattle.script_tokens.specs.Tokens.{tokens_of}
use Rattle.script_tokens.specs.TokenValue.{values_in, values_of_lines}
use Rattle.script_tokens.specs.Parsers.{Parsed, ended}
use Rattle.script_tokens.specs.Pool.{ListOrFault, gather, pool_bytes}
use Rattle.script_tokens.specs.TextForm.{LineHasValues}
use Rattle.script_tokens.proofs.PoolLaws.{through}
use Rattle.script_tokens.proofs.GatherLaws.{gather_none, gather_on}
use Rattle.script_tokens.proofs.ReadLaws.{AllGood, AllHoldBytes, lines_good, line_shown, tokens_bytes, both, ended_is}
use Rattle.edit_script.specs.declared.parsing.Line.{Line}
use Rattle.script_grammar.specs.Operands.{AllEncode}
use Rattle.edit_script.specs.Grammar.{one_or_group, edit}
use Rattle.edit_script.specs.Script.{edit_of, with_edit, edits_in, script_of}
use Rattle.edit_script.specs.TextForm.{EncodesEdit, LinesEncode, Spells}
use Rattle.edit_script.proofs.GroupReadLaws.{edit_encoded}

read_edit_encoded : (line : List TokenValue) (t : Parsed Edit) → AllHoldBytes line → edit line ≡ Ok t → EncodesEdit line t.value
unfolding edit
read_edit_encoded line t h e =
    let s = both (one_or_group line) (λ e. ended e) t e in
    let g = edit_encoded line s.first h s.is in
    let c = ended_is s.first.value s.first.rest t s.second in
    subst (EncodesEdit line) {x = s.first.value} c.1 (record {
      operands = g.operands;
      encoding = g.encoding;
      tokens =
          subst (AllEncode line) (append-nil g.operands)
          (g.prefix.encoding [] (subst (λ (r : List TokenValue). AllEncode r []) (sym c.0) tt));
    })

-- ---- the lines

-- what a line adds to the edits before it
pub record Adds (n : ℕ) (token_values : List TokenValue) (before after : List Line) : Type 0 where
  pub edit : Edit
  pub parts : after ≡ before ++ record { number = n; edit = edit } ∷ []
  pub form : EncodesEdit token_values edit

abbrev LineMakes : ℕ → List TokenValue → List Line → List Line → Type 0
LineMakes n token_values before after = ((token_values ≡ []) × (after ≡ before)) ⊎ Adds n token_values before after

with_edit_makes : (n : ℕ) (token_values : List TokenValue) (r : Result (Parsed Edit) LineFault) (before after : List Line)
    → ((t : Parsed Edit) → r ≡ Ok t → EncodesEdit token_values t.value) → with_edit n before r ≡ Ok after
    → LineMakes n token_values before after
with_edit_makes n token_values (Ok t) before after f e =
    let k : before ++ record { number = n; edit = t.value } ∷ [] ≡ after = cc in
    inr (record { edit = t.value; parts = sym k; form = f t refl })
with_edit_makes n token_values (Err d) before after f e = cc

line_makes : (n : ℕ) (token_values : List TokenValue) (before after : List Line) → AllHoldBytes token_values
    → edit_of n token_values before ≡ Ok after → LineMakes n token_values before after
unfolding edit_of
line_makes n [] before after h e = let k : before ≡ after = cc in inl (refl, sym k)
line_makes n (s ∷ token_values) before after h e =
    with_edit_makes n (s ∷ token_values) (edit (s ∷ token_values)) before after (λ t k. read_edit_encoded (s ∷ token_values) t h k) e

-- what lines add to the edits before them
record LinesMake (n : ℕ) (ls : List (List ℕ)) (before after : List Line) : Type 0 where
  pub more : List Line
  pub parts : after ≡ before ++ more
  pub say : LinesEncode n ls more

step_makes : (n : ℕ) (l : List ℕ) (ls : List (List ℕ)) (before between after : List Line) → LineHasValues l (values_in l)
    → LineMakes n (values_in l) before between → LinesMake (suc n) ls between after → LinesMake n (l ∷ ls) before after
step_makes n l ls before between after encoding (inl h) r = record {
  more = r.more;
  parts = r.parts ∙ ap (λ (x : List Line). x ++ r.more) h.1;
  say = inl (subst (LineHasValues l) h.0 encoding, r.say);
}
step_makes n l ls before between after encoding (inr h) r =
    let one : Line = record { number = n; edit = h.edit } in record {
      more = one ∷ r.more;
      parts = r.parts ∙ ap (λ (x : List Line). x ++ r.more) h.parts ∙ append_assoc before (one ∷ []) r.more;
      say =
          inr
          (record {
            token_values =
                values_in l;
            edit =
                h.edit;
            more = r.more;
            parts = refl;
            tokens = encoding;
            form = h.form;
            follow = r.say;
          });
    }

lines_make : (n : ℕ) (ls : List (List ℕ)) (before after : List Line) → AllByRecursion AllGood (map values_in ls)
    → gather edit_of n (map values_in ls) before ≡ Ok after → LinesMake n ls before after
lines_make n [] before after g e =
    let k : before ≡ after = cc (gather_none edit_of n before, e) in
    record { more = []; parts = sym k ∙ sym (append-nil before); say = refl }
lines_make n (l ∷ ls) before after g e =
    let t =
    through (edit_of n (values_in l) before) (λ ys. gather edit_of (suc n) (map values_in ls) ys) after
    (sym (gather_on edit_of n (values_in l) (map values_in ls) before) ∙ e) in
    let m = line_makes n (values_in l) before t.between (tokens_bytes (tokens_of l)) t.first in
    step_makes n l ls before t.between after (line_shown l g.0) m (lines_make (suc n) ls t.between after g.1 t.second)

-- ---- the text

pool_good : (text : List ℕ) (pool : ListOrFault ℕ) (r : ListOrFault Line) (edits : List Line) → pool_bytes text ≡ pool
    → result_and pool r ≡ Ok edits → AllByRecursion AllGood (values_of_lines text) × (r ≡ Ok edits)
unfolding pool_bytes
pool_good text (Ok pool) r edits p e = (lines_good 1 (values_of_lines text) [] pool p, e)
pool_good text (Err f) r edits p e = cc

pub read_spelled : (text : List ℕ) (edits : List Line) → script_of text ≡ Ok edits → Spells text edits
unfolding script_of edits_in
read_spelled text edits e =
    let g = pool_good text (pool_bytes text) (gather edit_of 1 (values_of_lines text) []) edits refl e in
    let m = lines_make 1 (lines_of text) [] edits g.0 g.1 in
    subst (LinesEncode 1 (lines_of text)) (sym m.parts) m.say
