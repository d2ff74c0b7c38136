use Rattle.bank_parts.specs.declared.owners.ZonePlace.TheVariants as place
use Rattle.bank_parts.specs.Owners.{gens_at}
use Rattle.bank_parts.proofs.PlaceChanges.{ordered}
use Rattle.zone_select.proofs.ZoneLaws.{has_global, holds_then, holds_else}
use Rattle.zone_select.proofs.zones.zone_holds.Goals as goal

pub is_within-requires-clause-owner : goal.is_within-requires-clause-owner
is_within-requires-clause-owner g c = has_global c.args.owners.now c.args.number c.args.zone c.requires

pub is_within-requires-clause-own : goal.is_within-requires-clause-own
is_within-requires-clause-own g c =
    ordered (gens_at c.args.owners.now c.args.number (place.Zone c.args.zone)) c.entries-own.result.now
    c.entries-own.ensures.value

pub is_within-requires-then-is_within-clause-owner : goal.is_within-requires-then-is_within-clause-owner
is_within-requires-then-is_within-clause-owner g c =
    has_global c.args.owners.now c.args.number c.args.zone c.requires

pub is_within-requires-then-is_within-clause-own : goal.is_within-requires-then-is_within-clause-own
is_within-requires-then-is_within-clause-own g c =
    ordered (gens_at c.args.owners.now c.args.number (place.Zone c.args.zone)) c.entries-own.result.now
    c.entries-own.ensures.value

pub returns-then-is_within : goal.returns-then-is_within
returns-then-is_within g c =
    holds_then c.args.owners.now c.args.note.now c.args.number c.args.zone c.entries-own.result.now
    c.entries-own.ensures.value c.is_within.result c.key.result c.key.ensures.value c.is_within.ensures
    c.is_within-then-is_within.result c.velocity.result c.velocity.ensures.value c.if-is_within.true
    c.is_within-then-is_within.ensures

pub returns-else-is_within : goal.returns-else-is_within
returns-else-is_within g c =
    holds_else c.args.owners.now c.args.note.now c.args.number c.args.zone c.entries-own.result.now
    c.entries-own.ensures.value c.is_within.result c.key.result c.key.ensures.value c.is_within.ensures
    c.if-is_within.false
