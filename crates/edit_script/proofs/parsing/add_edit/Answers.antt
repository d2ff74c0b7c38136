use Rattle.std.proofs.Common.{◌∙◌, sym, ap}
use Rattle.script_tokens.specs.TokenValue.{CursorState, values_over}
use Rattle.script_tokens.specs.Tokens.{tokens_of}
use Rattle.edit_script.specs.Grammar.{edit}
use Rattle.edit_script.specs.Script.{with_edit}
use Rattle.script_tokens.proofs.PoolLaws.{pool_at_end}
use Rattle.edit_script.proofs.ScriptLaws.{line_without_tokens, one_more, not_read, not_both}
use Rattle.edit_script.proofs.parsing.add_edit.Goals as goal

pub returns-then-is_empty-clause-added : goal.returns-then-is_empty-clause-added
returns-then-is_empty-clause-added c =
    line_without_tokens c.args.number _ c.args.edits.now.items
    (sym (ap (λ (l : CursorState). l.token_values) c.of-cursor.ensures) ∙ c.is_empty.ensures.0 c.if-is_empty.true)

pub returns-then-is_empty-clause-following : goal.returns-then-is_empty-clause-following
returns-then-is_empty-clause-following c =
    pool_at_end c.args.pool.now (tokens_of c.args.line.now)
    (sym (ap (λ (l : CursorState). l.token_values) c.of-cursor.ensures) ∙ c.is_empty.ensures.0 c.if-is_empty.true)

pub returns-in-Err-Fault-clause-added : goal.returns-in-Err-Fault-clause-added
returns-in-Err-Fault-clause-added c =
    let e = sym (ap (λ (l : CursorState). l.token_values) c.of-cursor.ensures) in
    let on = one_more c.args.number (values_over c.args.pool.now (tokens_of c.args.line.now)) c.args.edits.now.items
    (λ h. not_both (c.is_empty.ensures.1 (sym e ∙ h)) c.if-is_empty.false) in
    let r =
    not_read edit (λ e. e) c.of-cursor.result c.edit.new.line c.in-Err-Fault.field-0 c.in-Err-Fault.fault
    c.in-Err-Fault.field-0-is c.in-Err-Fault.ensures.reads in
    rw (c.into.ensures, c.on_line.ensures, c.in-Err-Fault.fault-is)
    (on ∙ ap (with_edit c.args.number c.args.edits.now.items) (ap edit e ∙ r))

pub returns-clause-added : goal.returns-clause-added
returns-clause-added c =
    let e = sym (ap (λ (l : CursorState). l.token_values) c.of-cursor.ensures) in
    let on = one_more c.args.number (values_over c.args.pool.now (tokens_of c.args.line.now)) c.args.edits.now.items
    (λ h. not_both (c.is_empty.ensures.1 (sym e ∙ h)) c.if-is_empty.false) in
    rw c.in_ok-push-in-Ok.ensures.items
    (on ∙ ap (with_edit c.args.number c.args.edits.now.items) (ap edit e ∙ c.in-Ok.ensures.reads.0))
