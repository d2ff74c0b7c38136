-- The points of a channel, with dither or without.
use Rattle.std.proofs.Common.{◌≡◌, ◌*◌, ◌/◌, ℕ, ℤ, List, length, Option, Some, None, Bool, true, false, refl}
use Rattle.std.proofs.Common.{◌∙◌, nat_lt, if◌then◌else◌}
use Rattle.std.specs.List.{enumerate_from}
use Rattle.std.proofs.lemmas.List.{length-map}
use Rattle.std.proofs.lemmas.List.FromFn.{length-enumerate_from}
use Rattle.hydra_records.proofs.TableLaws.{length-records}
use Rattle.pcm_points.specs.declared.encoding.SampleEncoding.{SampleEncoding}
use Rattle.pcm_points.specs.declared.encoding.SampleEncoding.TheVariants.{Signed16}
use Rattle.pcm_points.specs.Samples.{size_of}
use Rattle.pcm_points.specs.Points.{channel_samples, channel_words, point_word, sample_in}
use Rattle.pcm_points.specs.Dither.{dithered_word, dithered_words, noise, reduced_words, wide}

-- samples of 16 bits have no dither
pub narrow : (dither : Option ℕ) (bytes : List ℕ) → reduced_words dither Signed16 1 0 bytes ≡ channel_words Signed16 1 0 bytes
narrow None bytes = refl
narrow (Some seed) bytes = refl

-- ---- there is one for each frame

length-words : (e : SampleEncoding) (channels channel : ℕ) (bytes : List ℕ)
    → length (channel_words e channels channel bytes) ≡ length bytes / (channels * size_of e)
length-words e channels channel bytes =
    length-records (channels * size_of e) (λ frame. point_word e (sample_in (size_of e) channel frame)) bytes

pub length-reduced : (dither : Option ℕ) (e : SampleEncoding) (channels channel : ℕ) (bytes : List ℕ)
    → length (reduced_words dither e channels channel bytes) ≡ length bytes / (channels * size_of e)
length-reduced None e channels channel bytes = length-words e channels channel bytes
length-reduced (Some seed) e channels channel bytes = by_size (nat_lt 2 (size_of e))
  where
    by_size : (b : Bool)
        → length (if b then dithered_words seed e channels channel bytes else channel_words e channels channel bytes)
        ≡ length bytes / (channels * size_of e)
    by_size true =
        let samples = channel_samples (wide e) e channels channel bytes in
        length-map (enumerate_from 0 samples) (λ (frame : ℕ × ℤ). dithered_word (noise seed channel frame.0) frame.1)
        ∙ length-enumerate_from 0 samples
        ∙ length-records (channels * size_of e) (λ frame. wide e (sample_in (size_of e) channel frame)) bytes
    by_size false = length-words e channels channel bytes
