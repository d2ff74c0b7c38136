-- The edits of a script, line by line.
use Rattle.std.proofs.Common.{◌≡◌, ℕ, Bool, true, false, List, [], ◌∷◌, Ok, Err, refl, sym, ap, subst, ◌∙◌}
use Rattle.std.specs.Result.{result_and}
use Rattle.sf_base.specs.declared.memory.Failure.{Failure}
use Rattle.sf_base.specs.declared.memory.Failure.TheVariants.{Fault}
use Rattle.script_tokens.specs.declared.cursor.TokenValue.{TokenValue}
use Rattle.script_tokens.specs.declared.fault.LineFault.{LineFault}
use Rattle.script_tokens.specs.Lines.{lines_of}
use Rattle.script_tokens.specs.TokenValue.{CursorState, values_of_lines, line_values_over}
use Rattle.script_tokens.specs.Parsers.{Parser}
use Rattle.script_tokens.specs.Pool.{ListOrFault, pool_bytes}
use Rattle.script_tokens.proofs.PoolLaws.{over_pool}
use Rattle.script_grammar.specs.Memory.{ReadsOrOutOfMemory}
use Rattle.edit_script.specs.declared.parsing.Line.{Line}
use Rattle.edit_script.specs.Grammar.{edit}
use Rattle.edit_script.specs.Script.{edit_of, with_edit, edits_in, script_of}

pub line_without_tokens : (n : ℕ) (token_values : List TokenValue) (lines : List Line) → token_values ≡ [] → edit_of n token_values lines ≡ Ok lines
unfolding edit_of
line_without_tokens n [] lines e = refl
line_without_tokens n (s ∷ token_values) lines e = cc

pub one_more : (n : ℕ) (token_values : List TokenValue) (lines : List Line) → (token_values ≡ [] → ⊥)
    → edit_of n token_values lines ≡ with_edit n lines (edit token_values)
unfolding edit_of
one_more n [] lines some = absurd (some refl)
one_more n (s ∷ token_values) lines some = refl

-- the fault of a line that is not read
pub not_read : {X Y : Type 0} (part : Parser Y) (view : X → Y) (old new : CursorState) (failure : Failure LineFault)
    (fault : LineFault)
    → failure ≡ Fault fault → ReadsOrOutOfMemory view part old new (Err failure) → part old.token_values ≡ Err fault
not_read part view old new failure fault e h =
    subst (λ (f : Failure LineFault). ReadsOrOutOfMemory view part old new (Err f)) e h

pub not_both : {b : Bool} → b ≡ true → b ≡ false → ⊥
not_both p q = cc

pub script_over_pool : (text pool : List ℕ) → pool_bytes text ≡ Ok pool
    → edits_in (line_values_over pool (lines_of text)) ≡ script_of text
unfolding script_of
script_over_pool text pool e =
    ap edits_in (over_pool text pool e) ∙ ap (λ (r : ListOrFault ℕ). result_and r (edits_in (values_of_lines text))) (sym e)
