use Rattle.std.proofs.Common.{sym}
use Rattle.sfbank.specs.KitSteps.{file_of}
use Rattle.sfbank.proofs.FolderPlans.{pack_rejected, text_ends, text_unread}
use Rattle.sfbank.proofs.program.pack.pack_at.Goals as goal

pub returns-in-Ok-read_entry : goal.returns-in-Ok-read_entry
returns-in-Ok-read_entry g c =
    text_ends c.args.paths _ (file_of c.in-Ok-read_entry.file) _ (g.H.Host.world c.reject_output.new.host) _ _ _ _
    c.pack_text-end.result tt (rw c.requires at c.in-Ok.ensures) (rw c.requires at c.in-Ok-read_entry.ensures)
    (sym c.as_slice-text.ensures.value) c.pack_text-end.ensures

pub returns-in-Err-read_entry : goal.returns-in-Err-read_entry
returns-in-Err-read_entry g c =
    text_unread c.args.paths _ (g.H.Host.world c.reject_output.new.host) _ _ _ c.in-Err-read_entry.fault tt
    (rw c.requires at c.in-Ok.ensures) (rw c.requires at c.in-Err-read_entry.ensures)

pub returns-in-Err : goal.returns-in-Err
returns-in-Err g c = pack_rejected c.args.paths _ _ _ _ c.in-Err.fault (rw c.requires at c.in-Err.ensures)
