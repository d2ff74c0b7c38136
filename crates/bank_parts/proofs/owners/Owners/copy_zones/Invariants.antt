use Rattle.std.proofs.Common.{◌≡◌, take}
use Rattle.std.specs.Option.{IfSome}
use Rattle.bank_parts.specs.Settings.{zones_at}
use Rattle.bank_parts.proofs.owners.Owners.copy_zones.Given as goal

abbrev pub invariant-loop-k : goal.invariant-loop-k
invariant-loop-k g l = IfSome (zones_at l.self l.i) (λ all. l.zones.items ≡ take l.k all)
