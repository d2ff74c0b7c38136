use Rattle.program_commands.specs.declared.kits.KitSource.TheVariants.{Files}
use Rattle.sfbank.proofs.KitPlans.{kit_rejected, words_end, words_unread}
use Rattle.sfbank.proofs.program.kits.import_words.Goals as goal

pub returns-in-Ok-read_input : goal.returns-in-Ok-read_input
returns-in-Ok-read_input g c printed =
    words_end c.args.work c.args.members c.args.files c.in-Ok-read_input.file.items _
    (g.H.Host.world c.reject_outputs_of_kit.new.host) _ printed _ _ c.import_each.result tt c.in-Ok.ensures
    c.in-Ok-read_input.ensures
    (rw (c.as_slice.ensures.value, c.as_slice-in-Ok-read_input.ensures.value) at (c.import_each.ensures printed))

pub returns-in-Ok : goal.returns-in-Ok
returns-in-Ok g c printed =
    words_unread c.args.work c.args.members c.args.files _ (g.H.Host.world c.reject_outputs_of_kit.new.host) _ printed _
    c.in-Err-read_input.fault tt c.in-Ok.ensures c.in-Err-read_input.ensures

pub returns : goal.returns
returns g c printed =
    kit_rejected c.args.work c.args.members (Files c.args.files) _ _ printed _ c.in-Err.fault c.in-Err.ensures
