use Rattle.std.proofs.Common.{[], ◌∷◌}
use Rattle.std.specs.Path.{path_join}
use Rattle.sfbank.specs.FolderPlans.{sample_steps}
use Rattle.sfbank.specs.PlanParts.{SavesFile}
use Rattle.sfbank.proofs.SavedFolders.{first_fail, steps_then}
use Rattle.sfbank.proofs.program.saved_folder.save_files.Goals as goal

pub returns-in-Ok : goal.returns-in-Ok
returns-in-Ok g c =
    let folder = c.args.folder.now in
    steps_then folder (SavesFile (path_join folder c.args.file.now) (g.T.Text.bytes c.args.text.now) ∷ [])
    (sample_steps folder 0 c.args.samples.now) _ (g.H.Host.world c.save_text.new.host) _ _ c.save_waves.result
    c.in-Ok.ensures c.save_waves.ensures

pub returns-in-Err : goal.returns-in-Err
returns-in-Err g c =
    let folder = c.args.folder.now in
    first_fail folder (SavesFile (path_join folder c.args.file.now) (g.T.Text.bytes c.args.text.now) ∷ [])
    (sample_steps folder 0 c.args.samples.now) _ _ _ c.in-Err.fault c.in-Err.ensures
