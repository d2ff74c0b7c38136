use Rattle.std.proofs.Common.{[], ◌∷◌, refl}
use Rattle.std.specs.Path.{path_join}
use Rattle.sfbank.specs.PlanParts.{SavesFile}
use Rattle.sfbank.proofs.PlanLaws.{saved_none}
use Rattle.sfbank.proofs.program.saved_folder.save_text.Goals as goal

pub returns-in-Ok : goal.returns-in-Ok
returns-in-Ok g c = rw (c.as_str.ensures, c.in-Ok.ensures) at c.save_in.ensures

pub returns-in-Err : goal.returns-in-Err
returns-in-Err g c =
    let path = path_join c.args.folder.now c.args.file.now in
    saved_none (SavesFile path (g.T.Text.bytes c.args.text.now) ∷ []) _ _ refl
