-- The points of each side, read from the frames of both.
use Rattle.std.proofs.Common.{◌≡◌, ◌<◌, ◌*◌, ◌^◌, ℕ, List, [], ◌∷◌, length, get_or, refl, ap, ◌∙◌}
use Rattle.std.proofs.Common.{arith}
use Rattle.hydra_records.proofs.TableLaws.{records-next}
use Rattle.sample_view.specs.Words.{word_bytes, AreWords}
use Rattle.pcm_points.specs.declared.encoding.SampleEncoding.TheVariants.{Signed16}
use Rattle.pcm_points.specs.Points.{point_word, sample_in, channel_words}
use Rattle.pcm_points.proofs.ChannelLaws.{words_stay}
use Rattle.pair_waves.specs.Frames.{interleaved}

-- each frame has four bytes
pub length-interleaved : (left right : List ℕ) → length left ≡ length right → length (interleaved left right) ≡ 4 * length left
unfolding word_bytes
length-interleaved [] right e = refl
length-interleaved (l ∷ left) [] e = absurd (omega (arith, e))
length-interleaved (l ∷ left) (r ∷ right) e =
    let others = length-interleaved left right (omega (arith, e)) in omega (arith, others)

-- a point of two bytes is that point
word_back : (w : ℕ) → w < 2 ^ 16 → point_word Signed16 (word_bytes w) ≡ w
unfolding word_bytes
word_back w fits = ap (λ (ws : List ℕ). get_or ws 0 0) (words_stay (w ∷ []) (fits, tt))

abbrev point_in : ℕ → List ℕ → ℕ
point_in channel frame = point_word Signed16 (sample_in 2 channel frame)

pub left_back : (left right : List ℕ) → AreWords left → length left ≡ length right
    → channel_words Signed16 2 0 (interleaved left right) ≡ left
unfolding word_bytes
left_back [] right fit e = refl
left_back (l ∷ left) [] fit e = absurd (omega (arith, e))
left_back (l ∷ left) (r ∷ right) fit e =
    records-next 4 (point_in 0) (interleaved (l ∷ left) (r ∷ right)) (omega arith) (omega arith)
    ∙ (λ k. word_back l fit.0 k ∷ left_back left right fit.1 (omega (arith, e)) k)

pub right_back : (left right : List ℕ) → AreWords right → length left ≡ length right
    → channel_words Signed16 2 1 (interleaved left right) ≡ right
unfolding word_bytes
right_back [] [] fit e = refl
right_back [] (r ∷ right) fit e = absurd (omega (arith, e))
right_back (l ∷ left) [] fit e = absurd (omega (arith, e))
right_back (l ∷ left) (r ∷ right) fit e =
    records-next 4 (point_in 1) (interleaved (l ∷ left) (r ∷ right)) (omega arith) (omega arith)
    ∙ (λ k. word_back r fit.0 k ∷ right_back left right fit.1 (omega (arith, e)) k)
