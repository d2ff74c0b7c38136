use Rattle.std.proofs.Common.{◌∙◌, sym}
use Rattle.script_grammar.specs.Zones.{global_after_brace, first_zone_after_brace, zones_after_brace}
use Rattle.script_grammar.proofs.ItemLaws.{global_first, zone_first}
use Rattle.script_grammar.proofs.MemoryLaws.{reads_as}
use Rattle.script_grammar.proofs.zone_lists.zones_after_brace.Goals as goal

pub returns-then-is_next : goal.returns-then-is_next
returns-then-is_next c =
    reads_as global_after_brace zones_after_brace (λ z. z) c.args.line.now c.global_after_brace.new.line c.global_after_brace.result
    (global_first c.args.line.now.token_values (sym c.is_next.ensures ∙ c.if-is_next.true)) c.global_after_brace.ensures

pub returns-else-is_next : goal.returns-else-is_next
returns-else-is_next c =
    reads_as first_zone_after_brace zones_after_brace (λ z. z) c.args.line.now c.first_zone_after_brace.new.line c.first_zone_after_brace.result
    (zone_first c.args.line.now.token_values (sym c.is_next.ensures ∙ c.if-is_next.false)) c.first_zone_after_brace.ensures
