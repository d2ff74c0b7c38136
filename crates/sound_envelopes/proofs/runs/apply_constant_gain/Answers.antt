use Rattle.std.proofs.Common.{◌≡◌, arith, ap, sym, ◌∙◌}
use Rattle.sound_envelopes.specs.Gain.{scaled_by}
use Rattle.sound_envelopes.proofs.GainLaws.{full_level}
use Rattle.sound_envelopes.proofs.runs.apply_constant_gain.Goals as goal

pub returns-else-level-lt-UNITY_GAIN : goal.returns-else-level-lt-UNITY_GAIN
returns-else-level-lt-UNITY_GAIN c i h =
    let e : 65536 ≡ c.args.level = omega arith in
    sym (full_level _) ∙ ap (scaled_by _) e
