use Rattle.std.proofs.Common.{◌∙◌}
use Rattle.bank_parts.proofs.ReadLaws.{held}
use Rattle.bank_parts.proofs.RecordLaws.{zones_in_all, gens_in_all, mods_in_all, counted_all}
use Rattle.bank_parts.proofs.owners.Owners.records.Goals as goal

pub returns : goal.returns
returns g c =
    let a = held c.self.invariant c.self.view_is in
    let r = c.record_counts-zones.ensures in
    let counts = c.record_counts-zones.result in
    let fit = c.record_counts-zones.type_inv.1.1 in
    let zones = counted_all counts.0 _ (r.bags ∙ zones_in_all a) fit.0.1 in
    let gens = counted_all counts.1 _ (r.gens ∙ gens_in_all a) fit.1.0.1 in
    let mods = counted_all counts.2 _ (r.mods ∙ mods_in_all a) fit.1.1.0.1 in
    λ t. record { zones = zones t; gens = gens t; mods = mods t }
