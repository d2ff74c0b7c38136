use Rattle.std.proofs.lemmas.Result.{err_from_is_err_and}
use Rattle.script_tokens.specs.Parsers.{word}
use Rattle.script_grammar.specs.Zones.{global_zones, global_after_brace}
use Rattle.script_grammar.proofs.MemoryLaws.{first_fails, then_reads}
use Rattle.script_grammar.proofs.zone_lists.global_after_brace.Goals as goal

pub returns-in_err-word : goal.returns-in_err-word
unfolding global_after_brace
returns-in_err-word c =
    let p = err_from_is_err_and c.from_residual.result c.from_residual.ensures.1 in
    rw (p.1, p.2) (first_fails word (λ w. global_zones) c.args.line.now c.in_err-word.field-0.0 c.in_err-word.ensures)

pub returns : goal.returns
unfolding global_after_brace
returns c =
    then_reads word (λ w. global_zones) (λ z. z) c.args.line.now c.word.new.self c.global_zones.new.line _
    c.global_zones.result c.in_ok-word.ensures c.global_zones.ensures
