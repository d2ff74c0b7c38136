use Rattle.std.proofs.Common.{◌*◌, ◌/◌, ℕ, length, ap, sym, ◌∙◌}
use Rattle.wave_file.proofs.ReducedLaws.{length-reduced}
use Rattle.wave_file.proofs.channel_samples.ChannelSamples.len.Goals as goal

pub returns : goal.returns
returns c =
    let s = c.self.inside in
    ap (λ (size : ℕ). length s.frames.now / (s.channels * size)) c.size.ensures.value
    ∙ sym (length-reduced s.dither s.encoding s.channels s.channel s.frames.now)
    ∙ ap length c.self.view_is
