use Rattle.std.proofs.Common.{◌≡◌, ◌%◌, ◌∙◌, ℕ, List, length, ap, sym, arith}
use Rattle.sample_view.specs.Words.{words}
use Rattle.sample_view.proofs.WordLaws.{words_of_bytes, length-word_bytes}
use Rattle.wave_file.specs.declared.recording.Channels.TheVariants.{Mono}
use Rattle.wave_file.specs.InPlace.{frame_words}
use Rattle.wave_file.specs.ReadChecks.{recording_in}
use Rattle.wave_file.proofs.FrameLaws.{frames_read, even_is_ok}
use Rattle.wave_file.proofs.in_place.read_frames.Goals as goal

pub unwrap-requires : goal.unwrap-requires
unwrap-requires c =
    let bytes = c.in_ok-points-in-Ok.points.now in
    let even : length bytes % 2 ≡ 0 =
    omega (
      arith,
      ap length c.in_ok-points-in-Ok.ensures,
      length-word_bytes (frame_words c.args.frames c.args.file.now),
    ) in
    even_is_ok c.of_slice.result (length bytes) c.of_slice.ensures.odd even

pub returns-in_ok-points-in-Ok : goal.returns-in_ok-points-in-Ok
returns-in_ok-points-in-Ok c =
    let found = frame_words c.args.frames c.args.file.now in
    let read : c.unwrap.result ≡ words c.in_ok-points-in-Ok.points.now =
    rw c.unwrap.ensures at c.of_slice.ensures.value in
    let points : c.unwrap.result ≡ found = read ∙ ap words c.in_ok-points-in-Ok.ensures ∙ words_of_bytes found in
    frames_read (recording_in c.args.options c.args.file.now) c.in-Ok.rate c.in-Ok.sampler c.unwrap.result c.in-Ok.ensures
    (λ r is. c.requires.points r is ∙ ap (λ (ps : List ℕ). Mono ps) (sym points))
