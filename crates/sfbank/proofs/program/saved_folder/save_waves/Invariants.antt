use Rattle.std.proofs.Common.{◌≡◌, take}
use Rattle.std.specs.Option.{option_map}
use Rattle.sfbank.specs.FolderPlans.{sample_steps}
use Rattle.sfbank.specs.SavedFolders.{saved_steps}
use Rattle.sfbank.proofs.program.saved_folder.save_waves.Given as goal

-- the WAVE files so far are saved
abbrev pub invariant-loop-number : goal.invariant-loop-number
invariant-loop-number g l =
    g.H.Host.world l.host
    ≡ option_map (saved_steps (sample_steps l.folder 0 (take l.number l.samples))) (g.H.Host.world l.initial.host)
