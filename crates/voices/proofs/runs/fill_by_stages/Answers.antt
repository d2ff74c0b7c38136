use Rattle.std.proofs.Common.{◌+◌, ℤ, arith, ap, ◌∙◌}
use Rattle.sound_tables.specs.Tables.{gain_of}
use Rattle.sound_envelopes.specs.Gain.{scaled_by}
use Rattle.sound_envelopes.specs.Envelope.{envelope}
use Rattle.voices.specs.Sound.{unpanned_frame_at}
use Rattle.voices.proofs.runs.fill_by_stages.Goals as goal

pub returns-clause-sounds : goal.returns-clause-sounds
unfolding unpanned_frame_at
returns-clause-sounds c i h =
    c.apply_envelope-level.ensures.soft i h
    ∙ ap (λ (y : ℤ). scaled_by (scaled_by y (envelope c.args.v.now (c.args.t + i))) (gain_of c.args.v.now.attenuation))
    (c.fill_points-next.ensures.points i (omega (arith, h, c.apply_envelope-level.auto.run)))
