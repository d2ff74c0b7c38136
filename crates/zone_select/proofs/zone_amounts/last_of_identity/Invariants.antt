use Rattle.std.proofs.Common.{◌≡◌, take}
use Rattle.zone_select.specs.Amounts.{last_of_identity}
use Rattle.zone_select.proofs.zone_amounts.last_of_identity.Given as goal

-- the last such modulator so far
abbrev pub invariant-loop-modulator : goal.invariant-loop-modulator
invariant-loop-modulator l = l.found ≡ last_of_identity l.like (take l.modulator-index l.mods)
