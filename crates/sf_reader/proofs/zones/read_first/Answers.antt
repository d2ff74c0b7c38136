use Rattle.std.proofs.Common.{◌∙◌, ap, sym, refl}
use Rattle.std.specs.FinMap.{entries}
use Rattle.sf_base.specs.declared.memory.Failure.TheVariants.{Fault}
use Rattle.bank_format.specs.FaultChecks.{first_fault}
use Rattle.bank_format.specs.Reading.{bagged}
use Rattle.bank_format.specs.Zones.{gens_read}
use Rattle.sf_reader.proofs.BagAppends.{adds_as, adds_held}
use Rattle.sf_reader.proofs.BagSequences.{steps_none, steps_one, own_global, own_zone, first_counts, target_fails}
use Rattle.sf_reader.proofs.zones.read_first.Goals as goal

pub returns-in_default-clause-passes : goal.returns-in_default-clause-passes
returns-in_default-clause-passes c =
    let r = bagged c.args.generators.now c.args.modulators.now in (
      ap first_fault
          (steps_none c.args.level r _ c.in_ok-target.ensures.all c.args.targets.count c.args.targets.missing
          c.in_default.is),
      first_counts c.args.level r _ c.in_ok-target.ensures.all,
    )

pub returns-in_default-clause-records : goal.returns-in_default-clause-records
returns-in_default-clause-records c =
    adds_as c.args.records.now c.end_global.new.records _ _
    (own_global c.args.level (bagged c.args.generators.now c.args.modulators.now) _ c.in_ok-target.ensures.all
    c.in_default.is)
    (c.in_ok-end_global.ensures c.args.records.now
    (record { gens = gens_read c.args.level c.args.generators.now; mods = c.args.modulators.now })
    (record { bags_stay = refl; mods_stay = refl; gens_grow = c.in_ok-target.ensures.gens })
    (c.len-start.ensures ∙ c.args.records.now.gens.ok.0) refl)

pub returns-in_err-check_target-clause-passes : goal.returns-in_err-check_target-clause-passes
returns-in_err-check_target-clause-passes c =
    target_fails c.args.level (bagged c.args.generators.now c.args.modulators.now) _ c.in_ok-target.ensures.all
    c.args.targets.count c.args.targets.missing c.in-Some.target c.in-Some.is (λ c. c) _
    c.from_residual-in_err-check_target.result (Fault c.in_err-check_target.field-0.0)
    c.from_residual-in_err-check_target.ensures.1 c.in_err-check_target.ensures

pub returns-clause-passes : goal.returns-clause-passes
returns-clause-passes c =
    let r = bagged c.args.generators.now c.args.modulators.now in (
      ap first_fault
          (sym
          (steps_one c.args.level r _ c.in_ok-target.ensures.all c.args.targets.count c.args.targets.missing
          c.in-Some.target c.in-Some.is))
          ∙ c.in_ok-check_target.ensures.0,
      first_counts c.args.level r _ c.in_ok-target.ensures.all,
    )

pub returns-clause-records : goal.returns-clause-records
returns-clause-records c =
    let ends = rw c.target_operator.ensures at c.in_ok-end_zone.ensures in
    adds_as c.args.records.now c.end_zone.new.records _ _
    (own_zone c.args.level (bagged c.args.generators.now c.args.modulators.now) _ c.in_ok-target.ensures.all
    c.in-Some.target c.in-Some.is)
    (adds_held c.args.records.now _ c.end_zone.new.records (entries (gens_read c.args.level c.args.generators.now)) _
    c.args.modulators.now
    (record { bags_stay = refl; mods_stay = refl; gens_grow = c.in_ok-target.ensures.gens }) ends)
