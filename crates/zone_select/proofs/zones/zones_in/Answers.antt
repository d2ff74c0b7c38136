use Rattle.std.proofs.Common.{sym}
use Rattle.zone_select.proofs.ZoneLaws.{zone_count_few, fits_field}
use Rattle.zone_select.proofs.zones.zones_in.Goals as goal

pub overflow_cast-result : goal.overflow_cast-result
overflow_cast-result c =
    fits_field c.in-Some.count
    (zone_count_few c.args.bank.now c.args.owner c.in-Some.count c.soundness.ensures (sym c.in-Some.ensures))

pub returns-in-Some-clause-few : goal.returns-in-Some-clause-few
returns-in-Some-clause-few c =
    zone_count_few c.args.bank.now c.args.owner c.in-Some.count c.soundness.ensures (sym c.in-Some.ensures)
