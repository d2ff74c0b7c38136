use Rattle.file_disk.proofs.NameLaws.{old_is_temporary}
use Rattle.file_disk.proofs.keeping.keep_old.Goals as goal

pub keep_as-requires-clause-named : goal.keep_as-requires-clause-named
keep_as-requires-clause-named g c =
    rw c.as_str-in-loop-number.ensures.value (old_is_temporary _ _ c.in_ok-set_name.ensures)

pub returns-in-Ok-clause-named : goal.returns-in-Ok-clause-named
returns-in-Ok-clause-named g c = old_is_temporary _ _ c.in_ok-set_name.ensures
