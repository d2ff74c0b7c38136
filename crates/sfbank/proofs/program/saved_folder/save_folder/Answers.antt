use Rattle.std.proofs.Common.{◌∙◌, sym}
use Rattle.sfbank.specs.FolderPlans.{inner_steps}
use Rattle.sfbank.proofs.SavedFolders.{inner_saved, is_there, not_made}
use Rattle.sfbank.proofs.program.saved_folder.save_folder.Goals as goal

pub returns-then-is_either : goal.returns-then-is_either
returns-then-is_either g c printed =
    inner_saved c.args.folder.now c.args.force
    (inner_steps c.args.folder.now c.args.file.now (g.T.Text.bytes c.args.text.now) c.args.samples.now) _
    (g.H.Host.world c.make_folder.new.host) _ printed _ c.save_inner.result c.in-Ok.is_new c.in-Ok.ensures
    (sym c.is_either.ensures ∙ c.if-is_either.true) c.save_inner.ensures

pub returns-else-is_either : goal.returns-else-is_either
returns-else-is_either g c printed =
    is_there c.args.folder c.args.force
    (inner_steps c.args.folder.now c.args.file.now (g.T.Text.bytes c.args.text.now) c.args.samples.now) _ _ printed _
    c.in-Ok.is_new c.in-Ok.ensures (sym c.is_either.ensures ∙ c.if-is_either.false)

pub returns-in-Err : goal.returns-in-Err
returns-in-Err g c printed =
    not_made c.args.folder.now c.args.force
    (inner_steps c.args.folder.now c.args.file.now (g.T.Text.bytes c.args.text.now) c.args.samples.now) _ _ printed _
    c.in-Err.fault c.in-Err.ensures
