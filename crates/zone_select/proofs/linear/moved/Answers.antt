use Rattle.std.proofs.Common.{◌≡◌, ◌+ℤ◌, to_z, of_z, ◌∙◌, arith}
use Rattle.std.specs.Int.{w32}
use Rattle.std.proofs.lemmas.Int.{ints}
use Rattle.zone_select.proofs.LinearLaws.{moved_is}
use Rattle.zone_select.specs.ZoneSettings.{settings_of}
use Rattle.zone_select.proofs.linear.moved.Goals as goal

pub returns-clause-value : goal.returns-clause-value
returns-clause-value c =
    let own = c.amount.ensures.within in
    let added = c.linear_parts.ensures.within in
    let sum : to_z w32 (of_z w32 (to_z w32 (of_z w32 c.amount.result) +ℤ to_z w32 (of_z w32 c.linear_parts.result)))
    ≡ c.amount.result +ℤ c.linear_parts.result =
    omega (arith, ints, own.0, own.1, added.0, added.1) in
    sum
    ∙ moved_is c.args.note.now (settings_of c.args.zones.now.instrument)
    (settings_of c.args.zones.now.preset) c.args.operator c.key-key.result c.velocity-velocity.result
    c.amount.result c.linear_parts.result
    c.key-key.ensures.value c.velocity-velocity.ensures.value c.amount.ensures.value c.linear_parts.ensures.value
