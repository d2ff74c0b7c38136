use Rattle.std.proofs.Common.{sym, arith}
use Rattle.bank_validity.proofs.LimitLaws.{within_totals, samples_broken, points_broken, with_sample_within}
use Rattle.bank_validity.proofs.totals.Totals.broken_with_sample.Goals as goal

pub returns-then-self-ge-SAMPLES : goal.returns-then-self-ge-SAMPLES
returns-then-self-ge-SAMPLES c =
    sym (samples_broken c.args.self c.args.points (within_totals c.args.self c.requires) (omega arith))

pub overflow_sub-room : goal.overflow_sub-room
overflow_sub-room c = (within_totals c.args.self c.requires).points

pub returns-then-room-lt-ZERO_POINTS : goal.returns-then-room-lt-ZERO_POINTS
returns-then-room-lt-ZERO_POINTS c =
    sym (points_broken c.args.self c.args.points (within_totals c.args.self c.requires) (omega arith) (omega arith))

pub returns-then-room-points : goal.returns-then-room-points
returns-then-room-points c =
    sym (points_broken c.args.self c.args.points (within_totals c.args.self c.requires) (omega arith) (omega arith))

pub returns : goal.returns
returns c =
    let w = within_totals c.args.self c.requires in
    let points = w.points in
    sym (with_sample_within c.args.self c.args.points w (omega arith) (omega (arith, points)))
