use Rattle.sfbank.proofs.FolderRuns.{packs_back}
use Rattle.sfbank.proofs.PackedFiles.{saved_folders}
use Rattle.sfbank.proofs.laws.folders_pack_back.Goals as goal

pub returns-clause-runs : goal.returns-clause-runs
returns-clause-runs c = packs_back

pub returns-clause-files : goal.returns-clause-files
returns-clause-files c = saved_folders
