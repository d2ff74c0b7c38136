use Rattle.std.proofs.Common.{[], ◌∷◌, refl}
use Rattle.wave_file.specs.SampleWave.{sample_wave}
use Rattle.sfbank.specs.FolderPlans.{sample_path}
use Rattle.sfbank.specs.PlanParts.{SavesFile}
use Rattle.sfbank.proofs.PlanLaws.{saved_none}
use Rattle.sfbank.proofs.program.saved_folder.save_wave.Goals as goal

pub returns-in-Ok : goal.returns-in-Ok
returns-in-Ok g c = rw (c.as_str.ensures, c.in-Ok.ensures, c.new.ensures) at c.save_in.ensures

pub returns-in-Err : goal.returns-in-Err
returns-in-Err g c =
    let s = c.args.sample.now in
    saved_none (SavesFile (sample_path c.args.folder.now c.args.number s.name) (sample_wave s) ∷ []) _ _ refl
