use Rattle.std.proofs.Common.{[], ◌∷◌, ◌∙◌, List, ℕ, Err, refl, subst}
use Rattle.sfbank.specs.FolderPlans.{files_steps, samples_path}
use Rattle.sfbank.specs.PlanParts.{MakesFolder}
use Rattle.sfbank.specs.SavedFolders.{SavesSteps}
use Rattle.sfbank.proofs.PlanLaws.{saved_none}
use Rattle.sfbank.proofs.SavedFolders.{first_fail, made_one, steps_then}
use Rattle.sfbank.proofs.program.saved_folder.save_inner.Goals as goal

pub returns-in-Ok-make_folder : goal.returns-in-Ok-make_folder
returns-in-Ok-make_folder g c =
    let folder = c.args.folder.now in
    let files = files_steps folder c.args.file.now (g.T.Text.bytes c.args.text.now) c.args.samples.now in
    let made = rw (c.as_str.ensures, c.in-Ok.ensures) at c.in-Ok-make_folder.ensures in
    steps_then folder (MakesFolder (samples_path folder) ∷ []) files _ (g.H.Host.world c.make_folder.new.host) _ _
    c.save_files.result (made_one (samples_path folder) _ (g.H.Host.world c.make_folder.new.host) made.1)
    c.save_files.ensures

pub returns-in-Ok : goal.returns-in-Ok
returns-in-Ok g c =
    let folder = c.args.folder.now in
    let files = files_steps folder c.args.file.now (g.T.Text.bytes c.args.text.now) c.args.samples.now in
    first_fail folder (MakesFolder (samples_path folder) ∷ []) files _ _ _ c.in-Err-make_folder.fault
    (subst
    (λ (path : List ℕ).
    SavesSteps {U = Unit {0}} folder (MakesFolder path ∷ []) (g.H.Host.world c.args.host.now)
    (g.H.Host.world c.make_folder.new.host) (g.H.Host.written c.make_folder.new.host) (Err c.in-Err-make_folder.fault))
    (c.as_str.ensures ∙ c.in-Ok.ensures) c.in-Err-make_folder.ensures)

pub returns : goal.returns
returns g c =
    let folder = c.args.folder.now in
    let files = files_steps folder c.args.file.now (g.T.Text.bytes c.args.text.now) c.args.samples.now in
    saved_none (MakesFolder (samples_path folder) ∷ files) _ _ refl
