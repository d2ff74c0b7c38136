use Rattle.std.proofs.Common.{Some, sym, ap, ◌∙◌}
use Rattle.std.specs.Prelude.{is_some}
use Rattle.zone_select.specs.Amounts.{parameters_of}
use Rattle.zone_select.specs.At.{instrument_zone_at, selected_pair_at}
use Rattle.zone_select.specs.ZoneSettings.{ZoneSettings, settings_of}
use Rattle.zone_select.specs.declared.parameters.VoiceParameters.{VoiceParameters}
use Rattle.zone_select.proofs.SampleRangeLaws.{points_few, parameters_by, voices_playable}
use Rattle.zone_select.proofs.PlayedLaws.{there_by, never_lost}
use Rattle.zone_select.proofs.parameters.params.Goals as goal

pub parameters_of-requires-clause-points : goal.parameters_of-requires-clause-points
parameters_of-requires-clause-points c =
    points_few c.args.bank.now c.in_ok-selected_zones.selected_zones.sample c.in_ok-sample.sample.now c.soundness.ensures
    (sym c.in_ok-sample.ensures)

pub returns-clause-voice : goal.returns-clause-voice
returns-clause-voice c =
    ap (λ (v : VoiceParameters). Some v) c.parameters_of.ensures
    ∙ ap
    (λ (v : ZoneSettings).
    Some
    (parameters_of c.args.note.now v (settings_of c.pair_amounts-zones.result.preset) c.in_ok-sample.sample.now))
    c.pair_amounts-zones.ensures.instrument
    ∙ ap
    (λ (u : ZoneSettings).
    Some
    (parameters_of c.args.note.now (instrument_zone_at c.args.bank.now c.in_ok-selected_zones.selected_zones.zones) u
    c.in_ok-sample.sample.now))
    c.pair_amounts-zones.ensures.preset
    ∙ parameters_by c.args.bank.now c.args.note.now c.args.pair (selected_pair_at c.args.bank.now c.in_ok-selected_zones.selected_zones)
    c.in_ok-sample.sample.now (sym c.in_ok-selected_zones.ensures) (sym c.in_ok-sample.ensures)

pub returns-clause-playable : goal.returns-clause-playable
returns-clause-playable c = voices_playable c.args.bank.now c.args.note.now c.args.pair

pub returns-in_err-selected_zones-clause-there : goal.returns-in_err-selected_zones-clause-there
returns-in_err-selected_zones-clause-there c =
    there_by c.args.bank.now c.args.note.now c.args.pair c.from_residual.result
    (ap is_some c.from_residual.ensures ∙ ap is_some c.in_err-selected_zones.ensures)

-- a chosen sample is in the bank
lost : goal.After-from_residual-in_err-sample → ⊥
lost c =
    never_lost c.args.bank.now c.args.note.now c.args.pair (selected_pair_at c.args.bank.now c.in_ok-selected_zones.selected_zones)
    c.soundness.ensures.valid (sym c.in_ok-selected_zones.ensures) (sym c.in_err-sample.ensures)

pub returns-in_err-sample-clause-sample : goal.returns-in_err-sample-clause-sample
returns-in_err-sample-clause-sample c = absurd (lost c)

pub returns-in_err-sample-clause-mode : goal.returns-in_err-sample-clause-mode
returns-in_err-sample-clause-mode c = absurd (lost c)

pub returns-in_err-sample-clause-there : goal.returns-in_err-sample-clause-there
returns-in_err-sample-clause-there c = absurd (lost c)

pub returns-clause-there : goal.returns-clause-there
returns-clause-there c =
    there_by c.args.bank.now c.args.note.now c.args.pair (Some c.parameters_of.result)
    (ap is_some c.in_ok-selected_zones.ensures)
