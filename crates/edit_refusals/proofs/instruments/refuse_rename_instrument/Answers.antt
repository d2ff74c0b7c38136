use Rattle.std.proofs.Common.{[]}
use Rattle.bank_validity.specs.Limits.{broken_limit}
use Rattle.edit_forms.specs.declared.instruments.InstrumentStep.TheVariants.{RenameInstrument}
use Rattle.edit_forms.specs.declared.step.Step.TheVariants as steps
use Rattle.edit_forms.specs.Causes.{no_such_instrument}
use Rattle.edit_forms.specs.Steps.{raw}
use Rattle.edit_refusals.proofs.Accepted.{by_last}
use Rattle.edit_refusals.proofs.InstrumentLaws.{within_rename_instrument}
use Rattle.edit_refusals.proofs.instruments.refuse_rename_instrument.Goals as goal

pub returns : goal.returns
returns c = λ name.
    let b = c.args.bank.now in
    by_last [] (no_such_instrument b c.args.instrument)
    (broken_limit (raw b (steps.Instrument (RenameInstrument c.args.instrument name))))
    c.no_such_instrument.result tt c.no_such_instrument.ensures
    (λ h. within_rename_instrument b c.args.instrument name c.requires.valid)
