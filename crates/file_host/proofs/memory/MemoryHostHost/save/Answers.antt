use Rattle.file_host.proofs.FileLaws.{saved_if_pushed}
use Rattle.file_host.proofs.memory.MemoryHostHost.save.Goals as goal

pub returns-clause-saved : goal.returns-clause-saved
returns-clause-saved g c = saved_if_pushed c.push.result _ _ _ _ c.push.ensures.pushed c.push.ensures.stores
