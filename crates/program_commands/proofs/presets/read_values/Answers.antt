use Rattle.std.proofs.Common.{◌≡◌, ◌∙◌, ◌<◌, Some, arith, eqb-true, length, sym}
use Rattle.std.specs.Global.{Vec}
use Rattle.std.proofs.lemmas.Bool.Decides.{nat_tests}
use Rattle.std.proofs.lemmas.Result.{IfOk-weaker}
use Rattle.clap.specs.Words.{all_of, found_of}
use Rattle.clap.proofs.WalkLemmas.{raw_values-rows}
use Rattle.program_commands.specs.Words.{rows_in}
use Rattle.program_commands.proofs.PresetLaws.{no_option, no_values, texts_behind, values_given}
use Rattle.program_commands.proofs.presets.read_values.Goals as goal

-- The option is not used.
pub returns-in_default : goal.returns-in_default
returns-in_default g c =
    no_option g.T.Named.IsNamed (λ (values : Vec _). values.items) (rows_in c.args.matches.now) c.args.name.now
    (sym (c.in_default.ensures ∙ raw_values-rows (found_of c.args.matches.now) c.args.name.now))

-- It has no value.
pub returns-then-is_empty : goal.returns-then-is_empty
returns-then-is_empty g c =
    no_values g.T.Named.IsNamed (λ (values : Vec _). values.items) (rows_in c.args.matches.now) c.args.name.now
    c.in-Some.texts.now (sym (c.in-Some.ensures ∙ raw_values-rows (found_of c.args.matches.now) c.args.name.now))
    (eqb-true (length c.in-Some.texts.now) 0 (sym c.is_empty.ensures ∙ c.if-is_empty.true))

-- It has values.
pub returns : goal.returns
returns g c =
    let all : all_of c.args.name.now (rows_in c.args.matches.now) ≡ Some (texts_behind c.in-Some.texts.now) =
    sym (c.in-Some.ensures ∙ raw_values-rows (found_of c.args.matches.now) c.args.name.now) in
    let some : 0 < length c.in-Some.texts.now = grind (arith, nat_tests) in
    IfOk-weaker c.parse_all.result _ _ (λ found named.
    values_given g.T.Named.IsNamed (λ (values : Vec _). values.items) (rows_in c.args.matches.now) c.args.name.now
    c.in-Some.texts.now found all some named) c.parse_all.ensures
