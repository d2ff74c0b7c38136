use Rattle.std.proofs.Common.{refl}
use Rattle.sfbank.specs.KitPlans.{listing_of_words, paths_of, recordings_apart}
use Rattle.sfbank.proofs.KitPlans.{listed_rejected, memory_passes}
use Rattle.sfbank.proofs.program.kits.import_each.Goals as goal

pub returns-in-Ok : goal.returns-in-Ok
returns-in-Ok g c printed =
    rw (c.as_slice.ensures.value, c.as_slice-in-Ok.ensures.value, c.in-Ok.ensures) at (c.import_listed.ensures printed)

pub returns-in-Err : goal.returns-in-Err
returns-in-Err g c printed =
    let k = c.args.work in
    let listing = listing_of_words c.args.files.now in
    listed_rejected k c.args.members c.args.file.now listing _ _ printed _ _
    (memory_passes (recordings_apart k (paths_of listing.entries)) _ _ k.out refl)
