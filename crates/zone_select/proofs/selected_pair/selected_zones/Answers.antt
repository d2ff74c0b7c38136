use Rattle.std.proofs.Common.{rules, None, Some, sym}
use Rattle.zone_select.proofs.SelectedPairLaws.{no_preset, no_zone, by_both}
use Rattle.zone_select.proofs.selected_pair.selected_zones.Goals as goal

pub returns-in_err-preset : goal.returns-in_err-preset
returns-in_err-preset c =
    rw (no_preset c.args.bank.now c.args.note.now c.args.pair c.in_err-preset.ensures) (search rules)

pub returns-in_err-instrument : goal.returns-in_err-instrument
returns-in_err-instrument c =
    rw
    (no_zone c.args.bank.now c.args.note.now c.in_ok-preset.preset c.args.pair c.in_ok-preset.ensures
    (sym c.in_err-instrument.ensures))
    (search rules)

pub returns-in_err-sample : goal.returns-in_err-sample
returns-in_err-sample c =
    rw
    (by_both c.args.bank.now c.args.note.now c.in_ok-preset.preset c.in_ok-instrument.instrument c.args.pair None
    c.in_ok-preset.ensures (sym c.in_ok-instrument.ensures) (sym c.in_err-sample.ensures))
    (search rules)

pub returns : goal.returns
returns c =
    sym
    (by_both c.args.bank.now c.args.note.now c.in_ok-preset.preset c.in_ok-instrument.instrument c.args.pair
    (Some c.in_ok-sample.sample) c.in_ok-preset.ensures (sym c.in_ok-instrument.ensures)
    (sym c.in_ok-sample.ensures))
