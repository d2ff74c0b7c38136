use Rattle.file_disk.proofs.BankLaws.{bank_stored}
use Rattle.file_disk.proofs.bank.has_bank.Goals as goal

pub returns-in-Stores-clause-found : goal.returns-in-Stores-clause-found
returns-in-Stores-clause-found g c =
    let leads = rw c.in-Stores.is at c.in_ok-file.ensures.target in
    let begins = rw (c.as_str.ensures.value, c.in_ok-file.ensures.stays) at c.begins_at.ensures.found in
    bank_stored (g.D.Device.world c.args.device.now) c.args.path.now c.in-Stores.file c.begins_at.result leads begins
