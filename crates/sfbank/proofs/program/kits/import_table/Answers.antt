use Rattle.program_commands.specs.declared.kits.KitSource.TheVariants.{Table}
use Rattle.sfbank.proofs.KitPlans.{kit_rejected, table_end, table_unread}
use Rattle.sfbank.proofs.program.kits.import_table.Goals as goal

pub returns-in-Ok-read_two : goal.returns-in-Ok-read_two
returns-in-Ok-read_two g c printed =
    table_end c.args.work c.args.members c.args.table c.in-Ok-read_two.file.items c.in-Ok-read_two.text.items _
    (g.H.Host.world c.reject_outputs_of_kit.new.host) _ printed _ _ c.import_rows-end.result tt c.in-Ok.ensures
    c.in-Ok-read_two.ensures
    (rw (c.as_slice.ensures.value, c.as_slice-text.ensures.value) at (c.import_rows-end.ensures printed))

pub returns-in-Err-read_two : goal.returns-in-Err-read_two
returns-in-Err-read_two g c printed =
    table_unread c.args.work c.args.members c.args.table _ (g.H.Host.world c.reject_outputs_of_kit.new.host) _ printed _
    c.in-Err-read_two.fault tt c.in-Ok.ensures c.in-Err-read_two.ensures

pub returns-in-Err : goal.returns-in-Err
returns-in-Err g c printed =
    kit_rejected c.args.work c.args.members (Table c.args.table) _ _ printed _ c.in-Err.fault c.in-Err.ensures
