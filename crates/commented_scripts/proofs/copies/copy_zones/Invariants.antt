use Rattle.std.proofs.Common.{◌≡◌, take}
use Rattle.std.specs.Option.{IfSome}
use Rattle.bank_parts.specs.Settings.{zones_at}
use Rattle.commented_scripts.proofs.copies.copy_zones.Given as goal

-- the zones so far are copied
abbrev pub invariant-loop-k : goal.invariant-loop-k
invariant-loop-k g l = IfSome (zones_at l.owners l.i) (λ all. l.zones.items ≡ take l.k all)
