use Rattle.sfbank.proofs.NewBanks.{is_new}
use Rattle.sfbank.proofs.new.new_run.Goals as goal

pub returns-in_err-bank-clause-fixed : goal.returns-in_err-bank-clause-fixed
returns-in_err-bank-clause-fixed g c = is_new c.args.minor c.ranges.minor.fits

pub returns-clause-fixed : goal.returns-clause-fixed
returns-clause-fixed g c = is_new c.args.minor c.ranges.minor.fits
