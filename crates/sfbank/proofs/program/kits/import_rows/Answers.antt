use Rattle.std.proofs.Common.{refl}
use Rattle.kit_tables.specs.Rows.{rows_of}
use Rattle.sfbank.specs.KitPlans.{listing_in, paths_of, recordings_apart}
use Rattle.sfbank.specs.KitSteps.{listing_of}
use Rattle.sfbank.proofs.KitPlans.{listed_rejected, memory_passes, rows_fail}
use Rattle.sfbank.proofs.program.kits.import_rows.Goals as goal

pub returns-in-Ok-entries : goal.returns-in-Ok-entries
returns-in-Ok-entries g c printed =
    rw c.in-Ok.ensures
    (rw (c.as_slice-zones.ensures.value, c.as_slice.ensures.value, c.in-Ok-entries.ensures) at (c.import_listed.ensures printed))

pub returns-in-Ok : goal.returns-in-Ok
returns-in-Ok g c printed =
    let k = c.args.work in
    let listing = listing_of c.in-Ok.listing in
    rw c.in-Ok.ensures
    (listed_rejected k c.args.members c.args.file.now listing _ _ printed _ _
    (memory_passes (recordings_apart k (paths_of listing.entries)) _ _ k.out refl))

pub returns : goal.returns
returns g c printed =
    rows_fail c.args.work c.args.members c.args.file.now (listing_in c.args.table.now (rows_of c.args.text.now)) _ printed _
    c.in-Err.fault c.in-Err.ensures
