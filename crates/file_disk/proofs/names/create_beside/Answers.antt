use Rattle.file_disk.proofs.NameLaws.{new_is_temporary}
use Rattle.file_disk.proofs.names.create_beside.Goals as goal

pub returns-in_default-2-clause-named : goal.returns-in_default-2-clause-named
returns-in_default-2-clause-named g c = new_is_temporary c.create_new.result _ _ c.in_ok-set_name.ensures
