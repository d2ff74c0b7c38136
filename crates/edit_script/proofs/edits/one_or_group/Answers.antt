use Rattle.std.proofs.Common.{◌∙◌, sym}
use Rattle.script_grammar.proofs.MemoryLaws.{reads_as}
use Rattle.edit_script.specs.Grammar.{group, one, one_or_group}
use Rattle.edit_script.proofs.StepsLaws.{group_first, one_first}
use Rattle.edit_script.proofs.edits.one_or_group.Goals as goal

pub returns-then-is_next : goal.returns-then-is_next
returns-then-is_next c =
    reads_as group one_or_group (λ e. e) c.args.line.now c.group.new.line c.group.result
    (group_first c.args.line.now.token_values (sym c.is_next.ensures ∙ c.if-is_next.true)) c.group.ensures

pub returns-else-is_next : goal.returns-else-is_next
returns-else-is_next c =
    reads_as one one_or_group (λ e. e) c.args.line.now c.one.new.line c.one.result
    (one_first c.args.line.now.token_values (sym c.is_next.ensures ∙ c.if-is_next.false)) c.one.ensures
