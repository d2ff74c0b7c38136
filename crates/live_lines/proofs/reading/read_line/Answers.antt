use Rattle.std.proofs.Common.{◌∙◌, sym, ap}
use Rattle.script_tokens.specs.TokenValue.{CursorState, values_in}
use Rattle.script_tokens.proofs.GatherLaws.{step_fails}
use Rattle.live_lines.specs.Requests.{some_request}
use Rattle.live_lines.proofs.LineLaws.{values_same}
use Rattle.live_lines.proofs.RequestLaws.{asks_nothing, line_asks, not_both}
use Rattle.live_lines.proofs.reading.read_line.Goals as goal

pub returns-then-is_empty : goal.returns-then-is_empty
returns-then-is_empty c =
    asks_nothing (values_in c.args.line.now)
    (sym (values_same c.args.line.now c.args.pool.now c.requires.line c.requires.pool)
    ∙ sym (ap (λ (l : CursorState). l.token_values) c.of-cursor.ensures) ∙ c.is_empty.ensures.0 c.if-is_empty.true)

pub returns-in-Ok : goal.returns-in-Ok
returns-in-Ok c =
    line_asks c.args.line.now c.args.pool.now _ c.requires.line c.requires.pool
    (values_same c.args.line.now c.args.pool.now c.requires.line c.requires.pool)
    (λ h. not_both (c.is_empty.ensures.1 (ap (λ (l : CursorState). l.token_values) c.of-cursor.ensures ∙ h)) c.if-is_empty.false)
    ∙ ap some_request c.in-Ok.ensures

pub returns-in-Err : goal.returns-in-Err
returns-in-Err c =
    step_fails _ _ _ c.in-Err.ensures (λ f e. line_asks c.args.line.now c.args.pool.now _ c.requires.line
    c.requires.pool (values_same c.args.line.now c.args.pool.now c.requires.line c.requires.pool)
    (λ h. not_both (c.is_empty.ensures.1 (ap (λ (l : CursorState). l.token_values) c.of-cursor.ensures ∙ h)) c.if-is_empty.false)
    ∙ ap some_request e)
