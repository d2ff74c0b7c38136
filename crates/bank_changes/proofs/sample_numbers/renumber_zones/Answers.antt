use Rattle.std.proofs.Common.{◌<◌, length, slice_get, IfSome, subst, sym, ap, ◌∙◌, arith}
use Rattle.std.specs.Option.{IsSomeAnd}
use Rattle.base_numbered_lists.specs.Moved.{changed}
use Rattle.bank_parts.specs.Owners.{zone_count_at, target_at}
use Rattle.bank_parts.specs.Settings.{zones_changed}
use Rattle.bank_changes.specs.SampleNumbers.{number_in, TargetsBelow}
use Rattle.bank_parts.specs.Renumbered.{zone_with}
use Rattle.base_numbered_lists.proofs.Changing.{found}
use Rattle.bank_changes.proofs.SampleNumberLaws.{counted, zones_start, zone_there, zone_below, zone_done, zones_done}
use Rattle.bank_changes.proofs.sample_numbers.renumber_zones.Goals as goal

pub loop-k-init : goal.loop-k-init
loop-k-init g c =
    let (x, at, below) = found (TargetsBelow (length c.args.numbers.now)) (slice_get c.args.owners.now c.args.i) c.requires in
    zones_start (number_in c.args.numbers.now) c.args.owners.now c.args.i x at

pub renumber_zone-requires-clause-there : goal.renumber_zone-requires-clause-there
renumber_zone-requires-clause-there g c =
    let (x, at, below) = found (TargetsBelow (length c.args.numbers.now)) (slice_get c.args.owners.now c.args.i) c.requires in
    subst (λ owners. IsSomeAnd (zone_count_at owners c.args.i) (λ n. c.loop-k.k < n)) (sym c.loop-k.invariant)
    (zone_there (number_in c.args.numbers.now) c.args.owners.now c.args.i x at c.loop-k.k c.zone_count-k-end.result
    c.zone_count-k-end.ensures c.loop-k-test.true)

pub renumber_zone-requires-clause-below : goal.renumber_zone-requires-clause-below
renumber_zone-requires-clause-below g c =
    let (x, at, below) = found (TargetsBelow (length c.args.numbers.now)) (slice_get c.args.owners.now c.args.i) c.requires in
    let size = counted c.args.owners.now c.args.i c.zone_count-k-end.result x at c.zone_count-k-end.ensures in
    subst (λ owners. IfSome (target_at owners c.args.i c.loop-k.k) (λ target. target < length c.args.numbers.now))
    (sym c.loop-k.invariant)
    (zone_below (number_in c.args.numbers.now) c.args.owners.now c.args.i x at c.loop-k.k (length c.args.numbers.now)
    (omega arith) below)

pub loop-k-preserved : goal.loop-k-preserved
loop-k-preserved g c =
    let (x, at, below) = found (TargetsBelow (length c.args.numbers.now)) (slice_get c.args.owners.now c.args.i) c.requires in
    let size = counted c.args.owners.now c.args.i c.zone_count-k-end.result x at c.zone_count-k-end.ensures in
    let f = number_in c.args.numbers.now in
    c.renumber_zone.ensures
    ∙ (ap (λ owners. zones_changed owners c.args.i (λ zones. changed zones c.loop-k.k (zone_with f))) c.loop-k.invariant
    ∙ zone_done f c.args.owners.now c.args.i x at c.loop-k.k (omega arith))

pub returns : goal.returns
returns g c =
    let (x, at, below) = found (TargetsBelow (length c.args.numbers.now)) (slice_get c.args.owners.now c.args.i) c.requires in
    let size = counted c.args.owners.now c.args.i c.zone_count-k-end.result x at c.zone_count-k-end.ensures in
    c.loop-k.invariant
    ∙ zones_done (number_in c.args.numbers.now) c.args.owners.now c.args.i x at c.loop-k.k (omega arith)
