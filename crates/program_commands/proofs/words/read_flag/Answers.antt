use Rattle.std.proofs.Common.{◌∙◌}
use Rattle.clap.specs.Words.{found_of}
use Rattle.clap.proofs.WalkLemmas.{one_text-rows}
use Rattle.program_commands.proofs.words.read_flag.Goals as goal

pub returns : goal.returns
returns c =
    let rows = one_text-rows (found_of c.args.matches.now) c.args.name.now in (
      λ given. c.get_flag.ensures.value (rows ∙ given),
      λ given. c.get_flag.ensures.other (rows ∙ given),
      λ given. c.get_flag.ensures.none (rows ∙ given),
    )
