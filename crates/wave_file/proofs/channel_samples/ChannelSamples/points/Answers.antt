use Rattle.std.proofs.Common.{◌≡◌, ◌%◌, ℕ, List, length, Result, Ok, Err, ap, ◌∙◌, arith}
use Rattle.std.specs.List.{flat_map}
use Rattle.std.specs.Result.{IfOk}
use Rattle.sample_view.specs.Words.{words, word_bytes}
use Rattle.sample_view.proofs.WordLaws.{words_of_bytes, length-word_bytes}
use Rattle.wave_file.proofs.channel_samples.ChannelSamples.points.Goals as goal

words_are : {X E : Type 0} (items : X → List ℕ) (r : Result X E) (ws now : List ℕ) → ws ≡ now
    → IfOk r (λ x. items x ≡ flat_map word_bytes ws) → IfOk r (λ x. words (items x) ≡ now)
words_are items (Ok x) ws now e h = ap words h ∙ words_of_bytes ws ∙ e
words_are items (Err x) ws now e h = tt

are_whole : {X E : Type 0} (items : X → List ℕ) (r : Result X E) (ws : List ℕ)
    → IfOk r (λ x. items x ≡ flat_map word_bytes ws) → IfOk r (λ x. length (items x) % 2 ≡ 0)
are_whole items (Ok x) ws h = omega (arith, ap length h, length-word_bytes ws)
are_whole items (Err x) ws h = tt

pub returns : goal.returns
returns c = record {
  value = words_are (λ x. x.items) c.channel_points.result _ c.args.self.now c.self.view_is c.channel_points.ensures;
  whole = are_whole (λ x. x.items) c.channel_points.result _ c.channel_points.ensures;
}
