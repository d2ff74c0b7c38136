use Rattle.file_host.proofs.FileLaws.{pair_pushed}
use Rattle.file_host.proofs.memory.MemoryHostHost.save_pair.Goals as goal

pub returns-in-Ok-push-clause-saved : goal.returns-in-Ok-push-clause-saved
returns-in-Ok-push-clause-saved g c =
    pair_pushed _ _ _ _ _ _ _ c.in-Ok.ensures.pushed c.in-Ok.ensures.stores c.in-Ok-push.ensures.pushed
    c.in-Ok-push.ensures.stores

pub returns-in-Err-clause-counted : goal.returns-in-Err-clause-counted
returns-in-Err-clause-counted g c = c.pair_fault.ensures _ c.in-Err.ensures.counted

pub returns-in-Err-push-clause-counted : goal.returns-in-Err-push-clause-counted
returns-in-Err-push-clause-counted g c = c.pair_fault-in-Err-push.ensures _ c.in-Err-push.ensures.counted
