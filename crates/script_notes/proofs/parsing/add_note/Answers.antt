use Rattle.std.proofs.Common.{◌∙◌, sym, ap}
use Rattle.script_tokens.specs.TokenValue.{CursorState}
use Rattle.script_tokens.specs.Tokens.{tokens_of}
use Rattle.script_notes.specs.Notes.{in_time, note_of_line}
use Rattle.script_notes.proofs.NoteLaws.{line_is_empty, line_is_read, no_room, some_room, not_both}
use Rattle.script_notes.proofs.parsing.add_note.Goals as goal

pub returns-then-is_empty-clause-added : goal.returns-then-is_empty-clause-added
returns-then-is_empty-clause-added c =
    line_is_empty c.args.number _ (tokens_of c.args.line.now) c.args.notes.now.items
    (ap (λ (l : CursorState). l.token_values) c.of-cursor.ensures) (c.is_empty.ensures.0 c.if-is_empty.true)

pub returns-in-Err-clause-added : goal.returns-in-Err-clause-added
returns-in-Err-clause-added c =
    rw c.into.ensures (line_is_read c.args.number _ (tokens_of c.args.line.now) c.args.notes.now.items _
    (ap (λ (l : CursorState). l.token_values) c.of-cursor.ensures)
    (λ h. not_both (c.is_empty.ensures.1 h) c.if-is_empty.false) (ap (note_of_line _ c.args.number) c.in-Err.ensures))

pub returns-in-Ok-None-clause-added : goal.returns-in-Ok-None-clause-added
returns-in-Ok-None-clause-added c =
    rw c.into-in-Ok-None.ensures (line_is_read c.args.number _ (tokens_of
    c.args.line.now) c.args.notes.now.items _ (ap (λ (l : CursorState). l.token_values) c.of-cursor.ensures)
    (λ h. not_both (c.is_empty.ensures.1 h) c.if-is_empty.false)
    (ap (note_of_line _ c.args.number) c.in-Ok-None.ensures.0 ∙ ap (in_time _ c.args.number) c.in-Ok-None.field-0-is))

pub returns-then-is_full-clause-added : goal.returns-then-is_full-clause-added
returns-then-is_full-clause-added c =
    rw c.into-then-is_full.ensures (line_is_read c.args.number _ (tokens_of
    c.args.line.now) c.args.notes.now.items _ (ap (λ (l : CursorState). l.token_values) c.of-cursor.ensures)
    (λ h. not_both (c.is_empty.ensures.1 h) c.if-is_empty.false)
    (ap (note_of_line _ c.args.number) c.in-Ok-Some.ensures.0 ∙ ap (in_time _ c.args.number) c.in-Ok-Some.field-0-is
    ∙ no_room _ c.args.number _ (sym c.is_full.ensures ∙ c.if-is_full.true)))

pub returns-in_ok-push-in-Ok-Some-clause-added : goal.returns-in_ok-push-in-Ok-Some-clause-added
returns-in_ok-push-in-Ok-Some-clause-added c =
    rw c.in_ok-push-in-Ok-Some.ensures.items (line_is_read c.args.number _ (tokens_of c.args.line.now)
    c.args.notes.now.items _ (ap (λ (l : CursorState). l.token_values) c.of-cursor.ensures)
    (λ h. not_both (c.is_empty.ensures.1 h) c.if-is_empty.false)
    (ap (note_of_line _ c.args.number) c.in-Ok-Some.ensures.0 ∙ ap (in_time _ c.args.number) c.in-Ok-Some.field-0-is
    ∙ some_room _ c.args.number _ (sym c.is_full.ensures ∙ c.if-is_full.false)))
