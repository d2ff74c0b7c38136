use Rattle.live_lines.proofs.RequestLaws.{command_is_word, rest_after_command, is_command, is_edit}
use Rattle.live_lines.proofs.reading.request_or_edit.Goals as goal

pub request_by-requires-clause-after_word : goal.request_by-requires-clause-after_word
request_by-requires-clause-after_word c = let h = rw c.in-Ok.is at c.requires in rest_after_command _ _ h.0

pub request_by-requires-clause-word : goal.request_by-requires-clause-word
request_by-requires-clause-word c = let h = rw c.in-Ok.is at c.requires in command_is_word _ _ h.0

pub returns-in-Ok : goal.returns-in-Ok
returns-in-Ok c = let h = rw c.in-Ok.is at c.requires in rw (is_command _ _ h.0) c.request_by.ensures

pub returns-in-Err : goal.returns-in-Err
returns-in-Err c = let h = rw c.in-Err.is at c.requires in rw (is_edit _ _ h) c.edit_of_line.ensures
