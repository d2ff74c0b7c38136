use Rattle.bank_folders.proofs.FileNameLaws.{files_differ}
use Rattle.bank_folders.proofs.laws.sample_files_differ.Goals as goal

pub returns : goal.returns
returns c = files_differ
