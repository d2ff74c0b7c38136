use Rattle.sfbank.specs.Outcome.{bank_in}
use Rattle.sfbank.specs.Purposes.{taking_listed}
use Rattle.sfbank.proofs.BankPairs.{takes, takes_none}
use Rattle.sfbank.proofs.other_banks.read_to_take.Goals as goal

pub returns-in-Ok-check_presets : goal.returns-in-Ok-check_presets
returns-in-Ok-check_presets c = (
  c.in-Ok.ensures.0,
  takes c.args.file.now c.args.other.now c.in-Ok.bank c.in-Ok.from c.args.presets.now c.in-Ok.ensures.0 c.in-Ok.ensures.1
      c.in-Ok-check_presets.ensures,
)

pub returns-in-Ok : goal.returns-in-Ok
returns-in-Ok c =
    takes_none c.args.file.now c.args.other.now c.in-Ok.bank c.in-Ok.from c.args.presets.now c.in-Err-check_presets.fault
    c.in-Ok.ensures.0 c.in-Ok.ensures.1 c.in-Err-check_presets.ensures

pub returns : goal.returns
returns c =
    c.in-Err.ensures (taking_listed (bank_in c.args.other.now) (bank_in c.args.file.now) c.args.presets.now)
