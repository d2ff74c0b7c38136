use Rattle.std.proofs.Common.{sym, ap, ◌∙◌}
use Rattle.plan_presets.specs.declared.numbers.PresetNumbers.{PresetNumbers}
use Rattle.plan_copy.specs.Copying.{numbers_for}
use Rattle.plan_copy.proofs.FaultLaws.{preset_missing, preset_faulty, preset_can}
use Rattle.plan_copy.proofs.checks.check_preset.Goals as goal

pub returns-in-None : goal.returns-in-None
returns-in-None c name = preset_missing c.args.bank.now c.args.number c.args.given name (sym c.in-None.ensures)

pub returns-in-Ok : goal.returns-in-Ok
returns-in-Ok c name =
    let b = c.args.bank.now in
    preset_can b c.args.number c.args.given name c.in-Some.head c.in-Ok.field-0 (sym c.in-Some.ensures)
    (ap (λ (k : PresetNumbers). numbers_for b k c.args.given) (sym c.numbers_of.ensures) ∙ sym c.in-Ok.ensures)

pub returns-in-Err : goal.returns-in-Err
returns-in-Err c name =
    let b = c.args.bank.now in
    preset_faulty b c.args.number c.args.given name c.in-Some.head c.in-Err.fault (sym c.in-Some.ensures)
    (ap (λ (k : PresetNumbers). numbers_for b k c.args.given) (sym c.numbers_of.ensures) ∙ sym c.in-Err.ensures)
