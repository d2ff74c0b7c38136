use Rattle.std.proofs.Common.{◌<◌, ◌-◌, ◌∷◌, [], length, take, sym, subst, ◌∙◌, ap}
use Rattle.std.specs.List.{AllByRecursion, list_all}
use Rattle.generators.specs.Gens.{FitEntries}
use Rattle.modulators.specs.Modulators.{FitsModulator}
use Rattle.flat_records.specs.Bags.{gens_in, mods_in, no_modulator}
use Rattle.flat_records.specs.Owned.{all_bags}
use Rattle.sf_base.specs.Names.{IsName}
use Rattle.bank_parts.specs.Fits.{FitsOwner}
use Rattle.bank_parts.specs.Records.{is_valid_record}
use Rattle.bank_parts.proofs.ReadLaws.{held}
use Rattle.bank_parts.proofs.ValidLaws.{valid_exactly, all_fit, all-front, terminal_off, terminal_there, on_true}
use Rattle.bank_parts.proofs.owners.Owners.are_valid.Goals as goal

pub without_last-gens-requires : goal.without_last-gens-requires
without_last-gens-requires g c =
    subst (λ es. 0 < length es) (sym c.gen_records.ensures)
    (terminal_there (gens_in (all_bags c.self.inside.bags.owners)) (0, 0))

pub returns-clause-valid : goal.returns-clause-valid
returns-clause-valid g c =
    let a = held c.self.invariant c.self.view_is in
    let es = gens_in (all_bags c.self.inside.bags.owners) in
    let gens =
    c.without_last-gens.ensures
    ∙ (ap (λ es. take (length es - 1) es) c.gen_records.ensures ∙ terminal_off es (0, 0)) in
    let named =
    subst (AllByRecursion (λ h. IsName (g.H.OwnerHead.name h))) c.as_slice.ensures c.heads_fit.ensures.named in
    valid_exactly g.H.OwnerHead.name g.H.OwnerHead.LEVEL c.args.targets a named c.are_valid_records.result
    (c.are_valid_records.ensures ∙ (λ t. list_all (is_valid_record (c.LEVEL.ensures t) c.args.targets) (gens t)))

pub returns-clause-fits : goal.returns-clause-fits
returns-clause-fits g c =
    let a = held c.self.invariant c.self.view_is in
    let es = gens_in (all_bags c.self.inside.bags.owners) in
    let gens =
    c.without_last-gens.ensures
    ∙ (ap (λ es. take (length es - 1) es) c.gen_records.ensures ∙ terminal_off es (0, 0)) in
    let fit = subst (AllByRecursion g.H.OwnerHead.IsFit) c.as_slice.ensures c.heads_fit.ensures.fit in
    let mods =
    all-front FitsModulator (mods_in (all_bags c.self.inside.bags.owners)) (no_modulator ∷ [])
    (subst (AllByRecursion FitsModulator) c.mod_records.ensures c.mods_fit.ensures) in
    on_true c.are_valid_records.result (AllByRecursion (FitsOwner g.H.OwnerHead.IsFit) c.args.self.now)
    (all_fit g.H.OwnerHead.IsFit _ a fit (subst FitEntries gens c.gens_fit.ensures) mods)
