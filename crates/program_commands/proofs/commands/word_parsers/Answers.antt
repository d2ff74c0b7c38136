use Rattle.std.proofs.Common.{◌≡◌, ap, rules}
use Rattle.clap.specs.declared.builder.ValueParser.{ValueParser}
use Rattle.clap.specs.declared.builder.ValueParser.TheVariants.{Names}
use Rattle.program_commands.specs.declared.commands.WordParsers.{WordParsers}
use Rattle.program_commands.specs.Commands.{member_words, parsers_of, texts_of}
use Rattle.program_commands.proofs.commands.word_parsers.Goals as goal

-- The words of the code are those of the definitions.
pub returns : goal.returns
returns c =
    let member_texts : texts_of c.as_slice.result ≡ member_words = search rules in
    let members : c.from.result ≡ Names c.as_slice.result = search rules in
    let given : WordParsers = record { members = c.from.result } in
    let parsers : given ≡ parsers_of c.as_slice.result = ap (λ (m : ValueParser). record { members = m }) members in
    (c.as_slice.result, member_texts, parsers)
