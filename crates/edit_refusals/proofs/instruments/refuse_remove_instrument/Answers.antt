use Rattle.std.proofs.Common.{[], ◌∷◌}
use Rattle.bank_validity.specs.Limits.{broken_limit}
use Rattle.edit_forms.specs.declared.instruments.InstrumentStep.TheVariants.{RemoveInstrument}
use Rattle.edit_forms.specs.declared.step.Step.TheVariants as steps
use Rattle.edit_forms.specs.Causes.{no_such_instrument, used_instrument}
use Rattle.edit_forms.specs.Steps.{raw}
use Rattle.edit_refusals.proofs.Accepted.{by_last, below}
use Rattle.edit_refusals.proofs.InstrumentLaws.{within_remove_instrument}
use Rattle.edit_refusals.proofs.instruments.refuse_remove_instrument.Goals as goal

pub returns : goal.returns
returns c =
    let b = c.args.bank.now in
    let i = c.args.instrument in
    let there = c.in_ok-no_such_instrument.ensures in
    by_last (no_such_instrument b i ∷ []) (used_instrument b i)
    (broken_limit (raw b (steps.Instrument (RemoveInstrument i)))) c.used_instrument.result (there, tt)
    c.used_instrument.ensures
    (λ free. within_remove_instrument b i c.requires (below _ i there) free)
