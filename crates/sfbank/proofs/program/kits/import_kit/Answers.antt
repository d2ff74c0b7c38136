use Rattle.std.proofs.Common.{◌≡◌}
use Rattle.program_commands.specs.declared.kits.KitSource.TheVariants.{Files, Table}
use Rattle.sfbank.proofs.KitPlans.{kit_named}
use Rattle.sfbank.proofs.program.kits.import_kit.Goals as goal

pub returns-in-Files : goal.returns-in-Files
returns-in-Files g c printed =
    kit_named c.args.paths (Files c.in-Files.files) c.members_of-members.result _ printed _ _ _ c.in-Files.is
    c.members_of-members.ensures (c.import_words.ensures printed)

pub returns-in-Table : goal.returns-in-Table
returns-in-Table g c printed =
    kit_named c.args.paths (Table c.in-Table.table) c.table_members-members.result _ printed _ _ _ c.in-Table.is
    c.table_members-members.ensures (c.import_table.ensures printed)
