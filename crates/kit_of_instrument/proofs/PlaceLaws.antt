-- The places of an instrument.
use Rattle.std.proofs.Common.{◌≡◌, ◌<◌, ℕ, Option, Some, None, refl, arith}
use Rattle.std.specs.Prelude.{unwrap_or, IsSomeAnd}
use Rattle.bank_parts.specs.declared.owners.ZonePlace.TheVariants as there
use Rattle.bank_parts.specs.declared.parts.Parts.{Parts}
use Rattle.bank_parts.specs.Owners.{HasPlace, zone_count_at}
use Rattle.bank_changes.specs.declared.members.Owner.TheVariants as owner
use Rattle.zone_select.specs.Remaining.{zones_in}

pub has_zone : (b : Parts) (i k : ℕ) → k < zones_in b (owner.Inst i) → HasPlace b.instruments i (there.Zone k)
has_zone b i k h = from (zone_count_at b.instruments i) h
  where
    from : (o : Option ℕ) → k < unwrap_or o 0 → IsSomeAnd o (λ n. k < n)
    from None l = absurd (omega (arith, l))
    from (Some n) l = l
