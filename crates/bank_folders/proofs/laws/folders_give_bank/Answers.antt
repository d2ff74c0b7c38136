use Rattle.bank_folders.proofs.FolderLaws.{give_bank}
use Rattle.bank_folders.proofs.laws.folders_give_bank.Goals as goal

pub returns : goal.returns
returns c = give_bank
