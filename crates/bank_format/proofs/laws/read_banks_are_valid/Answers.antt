use Rattle.bank_format.proofs.ReadValid.{read_valid, read_fits}
use Rattle.bank_format.proofs.laws.read_banks_are_valid.Goals as goal

pub returns : goal.returns
returns c = record { valid = read_valid; fits = read_fits }
