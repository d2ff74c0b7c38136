use Rattle.std.proofs.Common.{[], ◌∷◌, length}
use Rattle.bank_validity.specs.Limits.{broken_limit}
use Rattle.edit_forms.specs.declared.instruments.InstrumentStep.TheVariants.{MoveInstrument}
use Rattle.edit_forms.specs.declared.step.Step.TheVariants as steps
use Rattle.edit_forms.specs.Causes.{no_such_instrument, bad_member_index}
use Rattle.edit_forms.specs.Steps.{raw}
use Rattle.edit_refusals.proofs.Accepted.{by_last, below}
use Rattle.edit_refusals.proofs.InstrumentLaws.{within_move_instrument}
use Rattle.edit_refusals.proofs.instruments.refuse_move_instrument.Goals as goal

pub returns : goal.returns
returns c =
    let b = c.args.bank.now in
    let i = c.args.from in
    let j = c.args.to in
    let there = c.in_ok-no_such_instrument.ensures in
    by_last (no_such_instrument b i ∷ []) (bad_member_index (length b.instruments) j)
    (broken_limit (raw b (steps.Instrument (MoveInstrument i j)))) c.bad_member_index.result (there, tt)
    (rw c.count.ensures at c.bad_member_index.ensures)
    (λ place. within_move_instrument b i j c.requires.valid (below _ i there) (below _ j place))
