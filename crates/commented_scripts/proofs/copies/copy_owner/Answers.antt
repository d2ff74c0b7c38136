use Rattle.std.proofs.Common.{slice_get}
use Rattle.bank_parts.proofs.CopyLaws.{owner_of}
use Rattle.commented_scripts.proofs.copies.copy_owner.Goals as goal

pub returns : goal.returns
returns g c =
    owner_of (slice_get c.args.owners.now c.args.i) c.head.result.now c.in_ok-global.global c.in_ok-zones.zones
    c.head.ensures c.in_ok-global.ensures c.in_ok-zones.ensures
