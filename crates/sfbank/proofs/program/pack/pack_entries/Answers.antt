use Rattle.std.proofs.Common.{map, refl}
use Rattle.bank_format.specs.Canon.{canon}
use Rattle.sfbank.specs.KitSteps.{entry_of, file_of}
use Rattle.sfbank.specs.PlanParts.{Text}
use Rattle.sfbank.proofs.FolderPlans.{entries_rejected, entries_unread, packed_ends, packing_fails}
use Rattle.sfbank.proofs.program.pack.pack_entries.Goals as goal

pub returns-in-Ok-packed_bank : goal.returns-in-Ok-packed_bank
returns-in-Ok-packed_bank g c =
    packed_ends c.args.paths c.args.text.text.now (map entry_of c.args.entries.now) (map file_of c.in-Ok-read_listed.files.items)
    (canon c.in-Ok-packed_bank.packed.bank) _ (g.H.Host.world c.reject_entries.new.host) _ _ _ _ c.put.result tt c.in-Ok.ensures
    c.in-Ok-read_listed.ensures (rw c.as_slice-files.ensures.value at c.in-Ok-packed_bank.ensures) (c.put.ensures (Text _) refl)

pub returns-in-Ok-read_listed : goal.returns-in-Ok-read_listed
returns-in-Ok-read_listed g c =
    let fails = rw c.as_slice-files.ensures.value at c.in-Err-packed_bank.ensures in
    packing_fails c.args.paths c.args.text.text.now (map entry_of c.args.entries.now) (map file_of c.in-Ok-read_listed.files.items)
    fails.0 _ (g.H.Host.world c.reject_entries.new.host) _ _ _ c.in-Err-packed_bank.fault tt c.in-Ok.ensures
    c.in-Ok-read_listed.ensures fails.1 fails.2

pub returns-in-Ok : goal.returns-in-Ok
returns-in-Ok g c =
    entries_unread c.args.paths c.args.text.text.now (map entry_of c.args.entries.now) _ (g.H.Host.world c.reject_entries.new.host)
    _ _ _ c.in-Err-read_listed.fault tt c.in-Ok.ensures c.in-Err-read_listed.ensures

pub returns : goal.returns
returns g c =
    entries_rejected c.args.paths c.args.text.text.now (map entry_of c.args.entries.now) _ _ _ _ c.in-Err.fault c.in-Err.ensures
