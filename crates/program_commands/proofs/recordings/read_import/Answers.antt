use Rattle.std.proofs.Common.{◌∷◌, [], ap, arith, codes, option_map}
use Rattle.program_commands.specs.Words.{AreGiven, IsGiven, operands_of, option_operands, optional_name, paths_in}
use Rattle.program_commands.specs.Words.{rows_in}
use Rattle.program_commands.specs.declared.words.Request.TheVariants.{Import}
use Rattle.program_commands.proofs.GetterLaws.{none_found}
use Rattle.program_commands.proofs.KitLaws.{HasPaths, not_one_recording}
use Rattle.program_commands.proofs.recordings.read_import.Goals as goal

-- An option is used that makes a kit.
pub returns-then-asks_for_kit : goal.returns-then-asks_for_kit
returns-then-asks_for_kit c = (
  tt,
  λ paths given. absurd (c.asks_for_kit.ensures.kit c.if-asks_for_kit.true
      (given.1.1.1.1.0, (given.1.1.1.1.1.0, (given.1.1.1.1.1.1.0, tt)))),
)

-- There are not two paths.
pub returns-in_err-paths : goal.returns-in_err-paths
returns-in_err-paths c =
    let rows = rows_in c.args.matches.now in
    none_found (λ paths. AreGiven rows (operands_of (Import paths)))
    (HasPaths rows (codes "WAVE"))
    c.from_residual.result (option_map paths_in c.read_last_paths.result)
    c.from_residual.ensures (ap (option_map paths_in) c.in_err-paths.was) c.read_last_paths.ensures
    (λ paths given. ((paths.wave.now ∷ [], paths.out.now, paths.undo.now), given.1.0))

-- There is not one recording.
pub returns-then-paths-ne1 : goal.returns-then-paths-ne1
returns-then-paths-ne1 c =
    not_one_recording (rows_in c.args.matches.now) c.in_ok-paths.paths c.in_ok-paths.ensures.0
    (λ one. absurd (omega arith))

pub returns-in_err-read_options : goal.returns-in_err-read_options
returns-in_err-read_options c =
    let rows = rows_in c.args.matches.now in
    none_found (λ paths. AreGiven rows (operands_of (Import paths)))
    (λ options. AreGiven rows (option_operands options))
    c.from_residual-in_err-read_options.result c.read_options.result
    c.from_residual-in_err-read_options.ensures c.in_err-read_options.was c.read_options.ensures
    (λ paths given. (paths.options, given.1.1.1.1.1.1.1))

pub returns-in_err-read_optional_name : goal.returns-in_err-read_optional_name
returns-in_err-read_optional_name c =
    let rows = rows_in c.args.matches.now in
    none_found (λ paths. AreGiven rows (operands_of (Import paths)))
    (λ name. IsGiven rows (optional_name (codes "name") name))
    c.from_residual-in_err-read_optional_name.result c.read_optional_name.result
    c.from_residual-in_err-read_optional_name.ensures c.in_err-read_optional_name.was c.read_optional_name.ensures
    (λ paths given. (paths.name, given.1.1.0))
