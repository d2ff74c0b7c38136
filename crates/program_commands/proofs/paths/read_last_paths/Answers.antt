use Rattle.std.proofs.Common.{◌∙◌, arith, refl, sym}
use Rattle.clap.specs.Words.{found_of}
use Rattle.clap.proofs.WalkLemmas.{raw_values-rows}
use Rattle.program_commands.specs.Words.{rows_in}
use Rattle.program_commands.proofs.KitLaws.{no_paths_absent, no_paths_short, paths_found}
use Rattle.program_commands.proofs.paths.read_last_paths.Goals as goal

-- The operand is not used.
pub returns-in_err-words : goal.returns-in_err-words
returns-in_err-words c =
    rw c.from_residual.ensures (no_paths_absent (rows_in c.args.matches.now) c.args.name.now
    (sym (c.in_err-words.ensures ∙ raw_values-rows (found_of c.args.matches.now) c.args.name.now)))

-- It has no word, or one.
pub returns-in_err-undo : goal.returns-in_err-undo
returns-in_err-undo c =
    rw c.from_residual-in_err-undo.ensures (no_paths_short (rows_in c.args.matches.now) c.args.name.now
    c.in_ok-words.words.now
    (sym (c.in_ok-words.ensures ∙ raw_values-rows (found_of c.args.matches.now) c.args.name.now))
    (omega (arith, c.in_err-undo.ensures.cases)))

pub returns-in_err-out : goal.returns-in_err-out
returns-in_err-out c =
    rw c.from_residual-in_err-out.ensures (no_paths_short (rows_in c.args.matches.now) c.args.name.now
    c.in_ok-words.words.now
    (sym (c.in_ok-words.ensures ∙ raw_values-rows (found_of c.args.matches.now) c.args.name.now))
    (omega (arith, c.in_ok-undo.ensures.cases.1, c.in_err-out.ensures.cases)))

-- Its last two words are the outputs.
pub returns : goal.returns
returns c = (
  rw (c.output_named.ensures, c.output_named-2.ensures) (paths_found (rows_in c.args.matches.now) c.args.name.now
      c.in_ok-words.words.now c.in_ok-undo.before.now c.in_ok-out.recordings.now c.in_ok-out.out.now c.in_ok-undo.undo.now
      (sym (c.in_ok-words.ensures ∙ raw_values-rows (found_of c.args.matches.now) c.args.name.now))
      c.in_ok-undo.ensures.cases.0 c.in_ok-out.ensures.cases.0),
  λ other given. refl,
)
