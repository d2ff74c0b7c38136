use Rattle.std.proofs.Common.{◌≡◌, ◌%◌, List, ℕ, length, ap, sym, ◌∙◌, arith}
use Rattle.sample_view.specs.Words.{words}
use Rattle.pcm_points.proofs.ChannelLaws.{sixteen_bits_stay}
use Rattle.wave_file.specs.declared.recording.Channels.TheVariants.{Mono}
use Rattle.wave_file.proofs.ImportLaws.{are_bytes}
use Rattle.wave_file.proofs.ReducedLaws.{narrow}
use Rattle.wave_file.proofs.format.mono_in.Goals as goal

pub returns-in-Signed16 : goal.returns-in-Signed16
returns-in-Signed16 c =
    let bytes = c.args.bytes.now in
    let single = c.if-channels-eq1.true in
    let first : c.args.channel ≡ 0 = let below = c.requires.channel in omega (arith, single, below) in
    let whole : length bytes % 2 ≡ 0 = rw (c.in-Signed16.is, single) at c.requires.whole in
    let points : c.unwrap.result ≡ words bytes = rw c.unwrap.ensures at c.of_slice.ensures.value in
    rw (c.in-Signed16.is, single, first)
    (ap (λ (ws : List ℕ). Mono ws)
    (points
    ∙ sym (sixteen_bits_stay bytes (are_bytes bytes c.type_inv.bytes) whole)
    ∙ sym (narrow c.args.dither bytes)))
