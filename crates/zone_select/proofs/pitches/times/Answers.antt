use Rattle.std.proofs.Common.{◌*ℤ◌, SFits, arith}
use Rattle.std.specs.Int.{w32}
use Rattle.std.proofs.lemmas.Int.{to_z-of_z}
use Rattle.zone_select.proofs.LinearLaws.{product_fits, interval_within}
use Rattle.zone_select.proofs.pitches.times.Goals as goal

pub overflow_mul-result : goal.overflow_mul-result
overflow_mul-result c =
    let ft : SFits w32 c.args.tuning = c.ranges.tuning in
    let fk : SFits w32 c.args.keys = c.ranges.keys in
    simp to_z-of_z
    (product_fits c.args.tuning c.args.keys 127 (omega arith) c.requires.tuning.0 c.requires.tuning.1
    c.requires.keys.0 c.requires.keys.1)

pub returns-clause-value : goal.returns-clause-value
returns-clause-value c =
    let ft : SFits w32 c.args.tuning = c.ranges.tuning in
    let fk : SFits w32 c.args.keys = c.ranges.keys in
    let fp : SFits w32 (c.args.tuning *ℤ c.args.keys) =
    product_fits c.args.tuning c.args.keys 127 (omega arith) c.requires.tuning.0 c.requires.tuning.1
    c.requires.keys.0 c.requires.keys.1 in
    simp to_z-of_z

pub returns-clause-within : goal.returns-clause-within
returns-clause-within c =
    let ft : SFits w32 c.args.tuning = c.ranges.tuning in
    let fk : SFits w32 c.args.keys = c.ranges.keys in
    let fp : SFits w32 (c.args.tuning *ℤ c.args.keys) =
    product_fits c.args.tuning c.args.keys 127 (omega arith) c.requires.tuning.0 c.requires.tuning.1
    c.requires.keys.0 c.requires.keys.1 in
    simp to_z-of_z
    (interval_within c.args.tuning c.args.keys c.requires.tuning.0 c.requires.tuning.1 c.requires.keys.0
    c.requires.keys.1)
