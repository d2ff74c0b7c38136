use Rattle.std.proofs.Common.{map}
use Rattle.program_reports.specs.declared.run_fault.RunFault.TheVariants as run
use Rattle.sfbank.specs.KitSteps.{entry_in}
use Rattle.sfbank.proofs.FolderPlans.{lines_end, no_entries, no_lines}
use Rattle.sfbank.proofs.program.pack.pack_listed.Goals as goal

pub returns-in-Ok-file_entries : goal.returns-in-Ok-file_entries
returns-in-Ok-file_entries g c =
    lines_end c.args.paths c.args.text.text.now (map entry_in c.in-Ok.files.items) _ _ _ _ c.pack_entries.result c.in-Ok.ensures
    (rw (c.as_slice-entries.ensures.value, c.in-Ok-file_entries.ensures, c.as_slice.ensures.value) at c.pack_entries.ensures)

pub returns-in-Ok : goal.returns-in-Ok
returns-in-Ok g c = no_lines c.args.paths c.args.text.text.now _ _ _ run.Memory tt

pub returns : goal.returns
returns g c = no_entries c.args.paths c.args.text.text.now _ _ _ c.in-Err.fault c.in-Err.ensures
