use Rattle.plan_copy.specs.Copying.{copied}
use Rattle.sfbank.specs.Outcome.{bank_in}
use Rattle.sfbank.specs.Purposes.{copying_to}
use Rattle.sfbank.specs.Steps.{IsReadAs}
use Rattle.sfbank.proofs.CopiedMembers.{copies_one, copies_none}
use Rattle.sfbank.proofs.OutcomeLaws.{bank_fails}
use Rattle.sfbank.proofs.copied_members.read_to_copy.Goals as goal

pub returns-in-Ok-check_copy : goal.returns-in-Ok-check_copy
returns-in-Ok-check_copy c name =
    let read : IsReadAs c.args.file.now c.in-Ok.bank = (c.in-Ok._counts, c.in-Ok.ensures) in
    (read, copies_one c.args.file.now c.in-Ok.bank c.args.member name read (c.in-Ok-check_copy.ensures name))

pub returns-in-Ok : goal.returns-in-Ok
returns-in-Ok c name =
    let read : IsReadAs c.args.file.now c.in-Ok.bank = (c.in-Ok._counts, c.in-Ok.ensures) in
    rw c.of_copy.ensures (copies_none c.args.file.now c.in-Ok.bank c.args.member name c.in-Err-check_copy.fault read
    (c.in-Err-check_copy.ensures name))

pub returns : goal.returns
returns c name =
    let file = c.args.file.now in
    bank_fails (λ both. both) c.in-Err.fault file (copying_to c.args.member name (copied (bank_in file) c.args.member name))
    c.in-Err.ensures
