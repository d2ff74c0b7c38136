use Rattle.std.proofs.Common.{◌∙◌}
use Rattle.std.specs.Str.Parse.{ExplainsUnsignedError, HasUnsignedDigitsIfOk}
use Rattle.clap.specs.Words.{found_of}
use Rattle.clap.proofs.WalkLemmas.{one_text-rows}
use Rattle.program_commands.specs.Words.{rows_in}
use Rattle.program_commands.proofs.GetterLaws.{number_read}
use Rattle.program_commands.proofs.words.read_small.Goals as goal

pub returns : goal.returns
returns c =
    let name = c.args.name.now in
    let rows = one_text-rows (found_of c.args.matches.now) name in
    number_read (ExplainsUnsignedError 10) HasUnsignedDigitsIfOk (rows_in c.args.matches.now) name 16 c.get_one.result
    (λ none. c.get_one.ensures.none (rows ∙ none)) (λ text given. c.get_one.ensures.value text (rows ∙ given))
