use Rattle.std.proofs.Common.{◌≡◌, arith, ap, sym, ◌∙◌}
use Rattle.sound_envelopes.specs.Gain.{scaled_by}
use Rattle.sound_envelopes.proofs.GainLaws.{full_level}
use Rattle.sound_envelopes.proofs.runs.apply_gain_and_attenuation.Goals as goal

pub returns-else-loudness-lt-UNITY_GAIN : goal.returns-else-loudness-lt-UNITY_GAIN
returns-else-loudness-lt-UNITY_GAIN c i h =
    let e : 65536 ≡ c.args.loudness = omega arith in
    c.apply_gain.ensures i h ∙ sym (full_level _) ∙ ap (scaled_by _) e
