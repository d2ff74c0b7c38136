use Rattle.std.proofs.Common.{◌∙◌, ap}
use Rattle.generators.specs.declared.level.Level.TheVariants as level
use Rattle.bank_validity.specs.Limits.{broken}
use Rattle.bank_validity.proofs.LimitLaws.{no_limit_of}
use Rattle.edit_forms.specs.declared.instruments.InstrumentStep.TheVariants.{AddInstrument}
use Rattle.edit_forms.specs.declared.step.Step.TheVariants as steps
use Rattle.edit_refusals.proofs.Accepted.{up_to}
use Rattle.edit_refusals.proofs.OwnerLaws.{by_records}
use Rattle.edit_refusals.proofs.InstrumentLaws.{limit_add_instrument}
use Rattle.edit_refusals.proofs.instruments.refuse_add_instrument.Goals as goal

pub broken_with_owner-requires : goal.broken_with_owner-requires
broken_with_owner-requires c = ap broken c.totals.ensures.value ∙ no_limit_of c.args.bank.now c.requires.valid.limits

pub returns : goal.returns
returns c =
    let b = c.args.bank.now in
    let x = c.args.instrument.now in
    let target = rw c.count.ensures at c.in_ok-no_such_target.ensures in
    let place = rw c.count-2.ensures at c.in_ok-bad_insert_index.ensures in
    by_records b (steps.Instrument (AddInstrument c.args.at x)) level.Inst x c.totals.result c.records.result
    c.broken_with_owner.result c.full.result
    (target, (place, (c.in_ok-bad_generator.ensures, (c.in_ok-bad_range.ensures, tt))))
    (limit_add_instrument b c.args.at x (up_to _ c.args.at place))
    c.totals.ensures.value c.records.ensures c.broken_with_owner.ensures c.full.ensures
